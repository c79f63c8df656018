-- Matches, rules, partners and steps, one after the other.
use Rattle.pair_rules.proofs.Unseen.{partner_at-seen, next_of-seen}
use Rattle.pair_rules.proofs.BreaksUnseen.{breaks-seen}
use Rattle.pair_rules.proofs.laws.rules_see_no_nodes.Goals as goal

pub returns-clause-breaks : goal.returns-clause-breaks
returns-clause-breaks c f g v w = breaks-seen f g v w

pub returns-clause-partners : goal.returns-clause-partners
returns-clause-partners c f g v w i = partner_at-seen f g v w i

pub returns-clause-steps : goal.returns-clause-steps
returns-clause-steps c f g v w way i = next_of-seen f g v w way i
