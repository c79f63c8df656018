use Rattle.type_reach.proofs.HullLemmas.{beyond-is}
use Rattle.type_reach.proofs.laws.facts_tell_bits_beyond.Goals as goal

pub returns : goal.returns
returns c = beyond-is
