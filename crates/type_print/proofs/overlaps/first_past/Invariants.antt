-- The members so far end at the bit or before it.
use Rattle.std.proofs.Common.{◌<◌, ◌≤◌, ℕ}
use Rattle.type_print.specs.Members.{end_of, member_at}
use Rattle.type_print.proofs.overlaps.first_past.Given as goal

abbrev pub invariant-loop-k : goal.invariant-loop-k
invariant-loop-k l = (j : ℕ) → l.from ≤ j → j < l.k → end_of (member_at l.members j) ≤ l.bit
