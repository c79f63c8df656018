-- The node that stands for a class is the least of it, and entries are compared both ways.
use Rattle.type_classes.proofs.RepLemmas.{stands, stands_alone}
use Rattle.type_classes.proofs.laws.classes_stand_by_their_least_entries.Goals as goal

pub returns-clause-stands : goal.returns-clause-stands
returns-clause-stands c k a sound coarsest inside = stands k sound coarsest a inside

pub returns-clause-alone : goal.returns-clause-alone
returns-clause-alone c k entry a sound coarsest inside is = stands_alone k sound coarsest entry a inside is
