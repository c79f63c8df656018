-- Each part is its own match.
use Rattle.pair_rules.proofs.OwnRules.{breaks-same}
use Rattle.pair_rules.proofs.laws.a_type_may_replace_itself.Goals as goal

pub returns : goal.returns
returns c v = breaks-same v
