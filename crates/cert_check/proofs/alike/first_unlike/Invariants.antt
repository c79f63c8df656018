-- The lines before this one keep it.
use Rattle.std.proofs.Common.{ℕ, ◌<◌}
use Rattle.cert_check.specs.Accepted.{KeepsAlike}
use Rattle.cert_check.proofs.alike.first_unlike.Given as goal

abbrev pub invariant-loop-k : goal.invariant-loop-k
invariant-loop-k g l = (j : ℕ) → j < l.k → KeepsAlike l.library.graph l.lines j
