use Rattle.suppressions.specs.PlainHandles.{plain_handle, plain_handles}
use Rattle.suppressions.proofs.HandleLemmas.{start_le, AreAt-slice}
use Rattle.suppressions.proofs.handle_order.places_in.Goals as goal

pub between-requires : goal.between-requires
between-requires c = record {
  rises = start_le (plain_handles c.args.handles.now) c.args.places.now (plain_handle c.args.handle) c.requires c.count_before-start.result c.count_upto-end.result c.count_before-start.ensures.parts c.count_upto-end.ensures.parts c.count_upto-end.ensures.inside c.count_before-start.ensures.inside;
  inside = c.count_upto-end.ensures.inside;
}

pub returns : goal.returns
returns c =
    rw c.between.ensures
    (AreAt-slice (plain_handles c.args.handles.now) c.args.places.now (plain_handle c.args.handle) c.requires c.count_before-start.result c.count_upto-end.result c.count_before-start.ensures.parts c.count_upto-end.ensures.parts c.count_upto-end.ensures.inside c.count_before-start.ensures.inside)
