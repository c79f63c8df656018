use Rattle.type_reach.proofs.CoreLemmas.{array-whole}
use Rattle.type_reach.proofs.laws.arrays_are_whole.Goals as goal

pub returns : goal.returns
returns c = array-whole
