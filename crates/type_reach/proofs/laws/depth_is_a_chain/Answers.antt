use Rattle.type_reach.proofs.OrderLemmas.{steps_on-is}
use Rattle.type_reach.proofs.laws.depth_is_a_chain.Goals as goal

pub returns : goal.returns
returns c = steps_on-is
