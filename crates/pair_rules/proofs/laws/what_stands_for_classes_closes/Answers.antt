-- One triple tells of all of its classes.
use Rattle.pair_rules.proofs.Classes.{closed_by_classes}
use Rattle.pair_rules.proofs.laws.what_stands_for_classes_closes.Goals as goal

pub returns : goal.returns
returns c t old new listed classes stands = closed_by_classes t old new classes listed stands
