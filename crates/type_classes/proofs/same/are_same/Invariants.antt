-- The nodes before this one are the same.
use Rattle.std.proofs.Common.{ℕ, ◌<◌, ◌≡◌}
use Rattle.abi_types.specs.Graphs.{node_at}
use Rattle.type_classes.proofs.same.are_same.Given as goal

abbrev pub invariant-loop-node : goal.invariant-loop-node
invariant-loop-node g l = (j : ℕ) → j < l.node → node_at l.one j ≡ node_at l.other j
