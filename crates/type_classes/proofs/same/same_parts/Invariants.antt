-- The parts before this one are the same.
use Rattle.std.proofs.Common.{ℕ, ◌<◌, ◌≡◌}
use Rattle.abi_types.specs.Graphs.{part_at}
use Rattle.type_classes.proofs.same.same_parts.Given as goal

abbrev pub invariant-loop-k : goal.invariant-loop-k
invariant-loop-k g l = (j : ℕ) → j < l.k → part_at l.one j ≡ part_at l.other j
