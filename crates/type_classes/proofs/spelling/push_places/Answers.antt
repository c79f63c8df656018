-- One item more.
use Rattle.std.proofs.Common.{length, refl}
use Rattle.type_classes.specs.Shapes.{spelled_place}
use Rattle.type_classes.proofs.ShapeLemmas.{list_more_at, list_all}
use Rattle.type_classes.proofs.spelling.push_places.Goals as goal

pub places-preserved : goal.places-preserved
places-preserved c = list_more_at spelled_place c.args.into.now.items c.places.into.items c.push_place.new.into.items (length c.args.places.now) c.places.i c.args.places.now _ c.places-test.true c.places.invariant c.in_ok-push_place.ensures.appended

pub returns-clause-appended : goal.returns-clause-appended
returns-clause-appended c = list_all spelled_place c.args.into.now.items c.places.into.items (length c.args.places.now) c.places.i c.args.places.now c.places-test.false refl c.places.invariant
