use Rattle.cert_check.proofs.Sound.{KeepsAll-from, closed, roots}
use Rattle.cert_check.proofs.laws.the_relation_of_an_accepted_certificate_is_closed.Goals as goal

pub returns-clause-closed : goal.returns-clause-closed
returns-clause-closed c = λ a old new even accepted. closed c.what_stands_for_classes_closes.ensures a old new even (KeepsAll-from a accepted)

pub returns-clause-roots : goal.returns-clause-roots
returns-clause-roots c = λ a old new even accepted. roots c.what_stands_for_classes_closes.ensures a old new even (KeepsAll-from a accepted)
