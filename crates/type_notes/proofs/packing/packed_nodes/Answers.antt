-- One more node.
use Rattle.std.proofs.Common.{◌∙◌, refl, arith}
use Rattle.std.proofs.lemmas.List.FromFn.{map-range_with_len_more}
use Rattle.type_notes.specs.Packing.{is_packed}
use Rattle.type_notes.proofs.packing.packed_nodes.Goals as goal

pub is_packed-is-requires-clause-aligns : goal.is_packed-is-requires-clause-aligns
is_packed-is-requires-clause-aligns g c = c.as_slice.ensures ∙ c.in_ok-aligns.ensures

pub loop-i-preserved : goal.loop-i-preserved
loop-i-preserved g c = rw (map-range_with_len_more (is_packed c.args.graph.now) 0 c.loop-i.i c.loop-i.i (omega arith)) (c.in_ok-push.ensures.ok ∙ rw (c.loop-i.invariant, c.is_packed-is.ensures, c.of.ensures) refl)
