use Rattle.type_reach.proofs.FlatLemmas.{flat-lower}
use Rattle.type_reach.proofs.laws.flat_members_are_lower.Goals as goal

pub returns : goal.returns
returns c = flat-lower
