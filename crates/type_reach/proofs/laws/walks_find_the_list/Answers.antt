use Rattle.type_reach.proofs.OrderLemmas.{by_offset-is}
use Rattle.type_reach.proofs.laws.walks_find_the_list.Goals as goal

pub returns : goal.returns
returns c = by_offset-is
