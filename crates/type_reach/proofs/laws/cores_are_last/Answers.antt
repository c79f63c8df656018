use Rattle.type_reach.proofs.CoreLemmas.{core-is}
use Rattle.type_reach.proofs.laws.cores_are_last.Goals as goal

pub returns : goal.returns
returns c = core-is
