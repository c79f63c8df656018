-- One label more.
use Rattle.abi_types.specs.Plain.{plain_label}
use Rattle.type_classes.specs.Shapes.{letters_of_label}
use Rattle.type_classes.proofs.ShapeLemmas.{letters_more_at, letters_all}
use Rattle.type_classes.proofs.spelling.push_label_letters.Goals as goal

pub labels-preserved : goal.labels-preserved
labels-preserved c =
    letters_more_at plain_label letters_of_label c.args.into.now.items c.labels.into.items c.extend_from_slice.new.self.items c.labels.i c.args.labels.now _ c.labels-test.true c.labels.invariant c.in_ok-extend_from_slice.ensures.items

pub returns-clause-appended : goal.returns-clause-appended
returns-clause-appended c = letters_all plain_label letters_of_label c.args.into.now.items c.labels.into.items c.labels.i c.args.labels.now c.labels-test.false c.labels.invariant
