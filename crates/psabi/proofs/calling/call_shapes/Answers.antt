-- One more node.
use Rattle.std.proofs.Common.{◌≡◌, ◌∙◌, refl, length, arith}
use Rattle.std.proofs.lemmas.List.FromFn.{map-range_with_len_more, length-map-range_with_len}
use Rattle.psabi.specs.Calls.{call_of}
use Rattle.psabi.proofs.FoundLemmas.{IsRight-none}
use Rattle.psabi.proofs.calling.call_shapes.Goals as goal

pub loop-i-init : goal.loop-i-init
loop-i-init g c = record {
  right = rw c.as_mut_slice-found.ensures.value (IsRight-none c.args.graph.now c.in_ok-room.room.items c.in_ok-room.ensures.found);
  limit = c.in_ok-walks.ensures.limit;
  shapes = c.new-shapes.ensures;
}

pub loop-i-preserved : goal.loop-i-preserved
loop-i-preserved g c = record {
  right = c.shape_with.ensures.right;
  limit = c.shape_with.ensures.limit;
  shapes = rw (map-range_with_len_more (call_of c.args.graph.now) 0 c.loop-i.i c.loop-i.i (omega arith)) (c.in_ok-push.ensures.ok ∙ rw (c.loop-i.invariant.shapes, c.in_ok-shape.ensures.shape, c.of.ensures) refl);
}

pub returns-clause-many : goal.returns-clause-many
returns-clause-many g c =
    let all : c.loop-i.i ≡ length c.args.graph.now = omega arith in
    rw (c.loop-i.invariant.shapes, length-map-range_with_len (call_of c.args.graph.now) 0 c.loop-i.i) all
