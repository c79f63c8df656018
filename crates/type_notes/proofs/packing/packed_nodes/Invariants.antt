-- The nodes so far.
use Rattle.std.proofs.Common.{◌≡◌, map}
use Rattle.std.specs.List.{range_with_len}
use Rattle.type_notes.specs.Packing.{is_packed}
use Rattle.type_notes.proofs.packing.packed_nodes.Given as goal

abbrev pub invariant-loop-i : goal.invariant-loop-i
invariant-loop-i g l = l.packed ≡ map (is_packed l.graph) (range_with_len 0 l.i)
