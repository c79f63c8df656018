-- The classes so far have a node.
use Rattle.type_classes.specs.Blocks.{len_of, class_in}
use Rattle.type_classes.specs.Reps.{AreOfClasses}
use Rattle.type_classes.proofs.reps.first_nodes.Given as goal

abbrev pub invariant-classes : goal.invariant-classes
invariant-classes l = AreOfClasses (len_of l.blocks) l.class (class_in l.blocks) l.list.items
