-- Nodes of one class look the same, apart from which nodes of one class their parts name.
use Rattle.pair_rules.proofs.Classes.{marked_same, breaks_same, step_same}
use Rattle.pair_rules.proofs.laws.triples_of_the_same_classes.Goals as goal

pub returns-clause-marks : goal.returns-clause-marks
returns-clause-marks c t old new x y classes inside there same = marked_same t old new classes x y inside there same

pub returns-clause-breaks : goal.returns-clause-breaks
returns-clause-breaks c t old new x y classes inside there same = breaks_same t old new classes x y inside there same

pub returns-clause-steps : goal.returns-clause-steps
returns-clause-steps c t old new x y z i classes inside there same stepped = step_same t old new classes x y z i inside there same stepped
