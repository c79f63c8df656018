-- The classes are a relation.
use Rattle.type_classes.proofs.AlikeLemmas.{alike_from_stable}
use Rattle.type_classes.proofs.laws.what_is_stable_is_alike.Goals as goal

pub returns : goal.returns
returns c = alike_from_stable
