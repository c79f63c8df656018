use Rattle.type_reach.proofs.CoreLemmas.{core-found}
use Rattle.type_reach.proofs.laws.cores_are_found.Goals as goal

pub returns : goal.returns
returns c = core-found
