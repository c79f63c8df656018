-- A look for the triple, both ways.
use Rattle.pair_explorer.proofs.Growth.{has_found, has_there}
use Rattle.pair_explorer.proofs.laws.what_is_visited_has_a_visit.Goals as goal

pub returns : goal.returns
returns c visits x = (has_found visits x, has_there visits x)
