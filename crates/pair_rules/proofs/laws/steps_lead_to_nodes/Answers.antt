-- What a step is, both ways; parts of graphs name nodes.
use Rattle.pair_rules.proofs.Leading.{IsStep-from_some, some_from_IsStep, step-inside}
use Rattle.pair_rules.proofs.laws.steps_lead_to_nodes.Goals as goal

pub returns-clause-exact : goal.returns-clause-exact
returns-clause-exact c t x y i = (IsStep-from_some t x y i, some_from_IsStep t x y i)

pub returns-clause-inside : goal.returns-clause-inside
returns-clause-inside c t x y i old new e = step-inside t x y i old new e
