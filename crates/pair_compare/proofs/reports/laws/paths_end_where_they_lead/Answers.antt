-- Step by step.
use Rattle.pair_compare.proofs.reports_lemmas.RootLemmas.{end_is}
use Rattle.pair_compare.proofs.reports_lemmas.WalkLemmas.{walk_of}
use Rattle.pair_compare.proofs.reports.laws.paths_end_where_they_lead.Goals as goal

pub returns-clause-ends : goal.returns-clause-ends
returns-clause-ends c = λ s path x leads. end_is c.steps_lead_to_nodes.ensures.exact s path x leads

pub returns-clause-walks : goal.returns-clause-walks
returns-clause-walks c = λ s path x old new leads. walk_of c.paths_lead_to_nodes.ensures.nodes c.steps_lead_to_nodes.ensures.exact c.paths_lead_to_nodes.ensures.parts s old new path x leads
