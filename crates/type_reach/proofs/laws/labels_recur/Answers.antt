use Rattle.type_reach.proofs.CoreLemmas.{labels_of-is}
use Rattle.type_reach.proofs.laws.labels_recur.Goals as goal

pub returns : goal.returns
returns c = labels_of-is
