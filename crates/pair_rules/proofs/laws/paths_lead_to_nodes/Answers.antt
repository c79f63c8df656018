-- By the last step of the path.
use Rattle.pair_rules.proofs.Leading.{IsStep-from_some, leads-inside}
use Rattle.pair_rules.proofs.laws.paths_lead_to_nodes.Goals as goal

pub returns-clause-nodes : goal.returns-clause-nodes
returns-clause-nodes c t path x old new roots leads = leads-inside t old new roots path x leads

pub returns-clause-parts : goal.returns-clause-parts
returns-clause-parts c t path part y (x, leads, stepped) = (x, leads, (IsStep-from_some t x y part stepped).partners.old_inside)
