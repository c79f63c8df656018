-- What is known stays right, and the limit the same.
use Rattle.std.proofs.Common.{◌≡◌}
use Rattle.psabi.specs.Found.{IsRight}
use Rattle.psabi.proofs.walks.Walks.take_all.Given as goal

abbrev pub invariant-loop-k : goal.invariant-loop-k
invariant-loop-k g l = IsRight l.graph l.found × (l.self.budget.limit ≡ l.initial.self.budget.limit)
