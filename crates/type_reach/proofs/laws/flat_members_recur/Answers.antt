use Rattle.type_reach.proofs.CoreLemmas.{flat_of-is}
use Rattle.type_reach.proofs.laws.flat_members_recur.Goals as goal

pub returns : goal.returns
returns c = flat_of-is
