-- The budget keeps its limit.
use Rattle.std.proofs.Common.{◌≡◌}
use Rattle.side_notes.proofs.needs.take_texts.Given as goal

abbrev pub invariant-loop-needed : goal.invariant-loop-needed
invariant-loop-needed l = l.budget.limit ≡ l.fn.budget.limit
