-- Rule by rule, and part by part.
use Rattle.pair_rules.proofs.BreakOrder.{breaks-ascend}
use Rattle.pair_rules.proofs.laws.breaks_stand_in_order.Goals as goal

pub returns : goal.returns
returns c v w m n b d lt at_m at_n = breaks-ascend v w m n b d lt at_m at_n
