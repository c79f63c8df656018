-- Relations turned round, and two of them one after the other.
use Rattle.type_classes.proofs.AlikeLemmas.{alike-reflexive, alike-symmetric, alike-transitive}
use Rattle.type_classes.proofs.laws.alike_is_an_equivalence.Goals as goal

pub returns-clause-reflexive : goal.returns-clause-reflexive
returns-clause-reflexive c = alike-reflexive

pub returns-clause-symmetric : goal.returns-clause-symmetric
returns-clause-symmetric c = alike-symmetric

pub returns-clause-transitive : goal.returns-clause-transitive
returns-clause-transitive c nodes i j k graph one two three = alike-transitive nodes graph i j k two
