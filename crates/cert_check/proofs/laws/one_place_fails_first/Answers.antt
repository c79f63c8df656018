use Rattle.cert_check.specs.Accepted.{Case, places}
use Rattle.cert_check.proofs.Groups.{first_once}
use Rattle.cert_check.proofs.laws.one_place_fails_first.Goals as goal

pub returns : goal.returns
returns c = λ (case : Case). first_once case (places case)
