-- One label more.
use Rattle.std.proofs.Common.{length}
use Rattle.abi_types.specs.Plain.{plain_label}
use Rattle.type_classes.specs.Shapes.{spelled_label}
use Rattle.type_classes.proofs.ShapeLemmas.{list_more_map_at, list_all_map}
use Rattle.type_classes.proofs.spelling.push_labels.Goals as goal

pub labels-preserved : goal.labels-preserved
labels-preserved c =
    list_more_map_at plain_label spelled_label c.args.into.now.items c.labels.into.items c.push_label.new.into.items (length c.args.labels.now) c.labels.i c.args.labels.now _ c.labels-test.true c.labels.invariant c.in_ok-push_label.ensures.appended

pub returns-clause-appended : goal.returns-clause-appended
returns-clause-appended c = list_all_map plain_label spelled_label c.args.into.now.items c.labels.into.items c.labels.i c.args.labels.now c.labels-test.false c.labels.invariant
