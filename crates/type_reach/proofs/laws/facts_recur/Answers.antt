use Rattle.type_reach.proofs.FactLemmas.{facts_of-is}
use Rattle.type_reach.proofs.laws.facts_recur.Goals as goal

pub returns : goal.returns
returns c = facts_of-is
