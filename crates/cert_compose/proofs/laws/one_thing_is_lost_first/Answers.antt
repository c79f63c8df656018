use Rattle.cert_compose.proofs.FirstLost.{lost_is_one, nothing_is_lost}
use Rattle.cert_compose.proofs.laws.one_thing_is_lost_first.Goals as goal

pub returns-clause-one : goal.returns-clause-one
returns-clause-one c = lost_is_one

pub returns-clause-none : goal.returns-clause-none
returns-clause-none c = nothing_is_lost
