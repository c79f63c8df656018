-- Each is a lemma on views with other numbers for nodes.
use Rattle.pair_rules.proofs.Unseen.{number_of-seen, match_of-seen, bit_at-seen, width_at-seen, value_at-seen, params_of-seen}
use Rattle.pair_rules.proofs.laws.parts_see_no_nodes.Goals as goal
use Rattle.pair_rules.proofs.lemmas.Parts.{part_at-seen}

pub returns-clause-parts : goal.returns-clause-parts
returns-clause-parts c = part_at-seen

pub returns-clause-numbers : goal.returns-clause-numbers
returns-clause-numbers c = number_of-seen

pub returns-clause-matches : goal.returns-clause-matches
returns-clause-matches c = match_of-seen

pub returns-clause-bits : goal.returns-clause-bits
returns-clause-bits c = bit_at-seen

pub returns-clause-widths : goal.returns-clause-widths
returns-clause-widths c = width_at-seen

pub returns-clause-values : goal.returns-clause-values
returns-clause-values c = value_at-seen

pub returns-clause-params : goal.returns-clause-params
returns-clause-params c = params_of-seen
