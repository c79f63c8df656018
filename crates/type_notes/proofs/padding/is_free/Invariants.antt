-- None so far.
use Rattle.std.proofs.Common.{◌≡◌, false, take}
use Rattle.std.specs.List.{list_any}
use Rattle.abi_types.specs.Graphs.{view_at}
use Rattle.type_notes.specs.Padding.{bits_of, share}
use Rattle.type_notes.proofs.padding.is_free.Given as goal

abbrev pub invariant-loop-k : goal.invariant-loop-k
invariant-loop-k g l = list_any (λ p. share l.bits (bits_of l.graph p)) (take l.k (view_at l.graph (g.Ix.Index.number_of l.ix)).parts) ≡ false
