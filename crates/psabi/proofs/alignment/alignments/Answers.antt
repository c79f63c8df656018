-- One more node.
use Rattle.std.proofs.Common.{◌∙◌, refl, arith}
use Rattle.std.proofs.lemmas.List.FromFn.{map-range_with_len_more}
use Rattle.psabi.specs.Alignment.{align_of}
use Rattle.psabi.proofs.FoundLemmas.{IsRight-none}
use Rattle.psabi.proofs.alignment.alignments.Goals as goal

pub loop-i-init : goal.loop-i-init
loop-i-init g c = record {
  right = rw c.as_mut_slice-found.ensures.value (IsRight-none c.args.graph.now c.in_ok-room.room.items c.in_ok-room.ensures.found);
  aligns = c.new-aligns.ensures;
}

pub loop-i-preserved : goal.loop-i-preserved
loop-i-preserved g c = record {
  right = c.align_with-align.ensures.right;
  aligns = rw (map-range_with_len_more (align_of c.args.graph.now) 0 c.loop-i.i c.loop-i.i (omega arith)) (c.in_ok-push.ensures.ok ∙ rw (c.loop-i.invariant.aligns, c.align_with-align.ensures.align, c.of.ensures) refl);
}
