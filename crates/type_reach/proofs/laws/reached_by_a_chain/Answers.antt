use Rattle.type_reach.proofs.ReachedLemmas.{is_reached-is}
use Rattle.type_reach.proofs.laws.reached_by_a_chain.Goals as goal

pub returns : goal.returns
returns c = is_reached-is
