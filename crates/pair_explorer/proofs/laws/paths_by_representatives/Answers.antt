-- A step from triples of the same classes leads to triples of the same classes.
use Rattle.pair_explorer.proofs.Representatives.{AreUnseen, goes, comes}
use Rattle.pair_explorer.proofs.laws.paths_by_representatives.Goals as goal

unseen : (c : goal.After-rules_see_no_nodes) → AreUnseen
unseen c = record { breaks = c.rules_see_no_nodes.ensures.breaks; steps = c.rules_see_no_nodes.ensures.steps }

pub returns-clause-goes : goal.returns-clause-goes
returns-clause-goes c = λ s path x sound leads. goes (unseen c) s sound path x leads

pub returns-clause-comes : goal.returns-clause-comes
returns-clause-comes c = λ s path z sound leads. comes (unseen c) s sound path z leads
