-- None so far.
use Rattle.std.proofs.Common.{◌≡◌, false, take}
use Rattle.std.specs.List.{list_any}
use Rattle.abi_types.specs.Graphs.{view_at}
use Rattle.type_notes.specs.Packing.{stands_off}
use Rattle.type_notes.proofs.packing.is_packed.Given as goal

abbrev pub invariant-loop-k : goal.invariant-loop-k
invariant-loop-k g l = list_any (stands_off l.graph) (take l.k (view_at l.graph (g.Ix.Index.number_of l.ix)).parts) ≡ false
