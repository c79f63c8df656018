-- Visit by visit, and of each visit as the rules list them.
use Rattle.pair_explorer.proofs.Sources.{told_in_order}
use Rattle.pair_explorer.proofs.laws.breaks_are_told_in_order.Goals as goal

pub returns : goal.returns
returns c s visits broken m n p q explored lt at_m at_n = told_in_order c.breaks_stand_in_order.ensures s visits broken explored m n p q lt at_m at_n
