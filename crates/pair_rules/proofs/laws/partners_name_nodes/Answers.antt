-- What partners are, both ways.
use Rattle.pair_rules.proofs.Partnering.{IsPartner-from_some, some_from_IsPartner}
use Rattle.pair_rules.proofs.laws.partners_name_nodes.Goals as goal

pub returns-clause-partners : goal.returns-clause-partners
returns-clause-partners c v w i j = ((λ e. (IsPartner-from_some v w i (i, j) e).1), some_from_IsPartner v w i j)

pub returns-clause-place : goal.returns-clause-place
returns-clause-place c v w i p e = (IsPartner-from_some v w i p e).0
