use Rattle.type_reach.proofs.ListedLemmas.{listed-walk, listed-closed}
use Rattle.type_reach.proofs.laws.the_list_holds_the_reached.Goals as goal

pub returns-clause-walk : goal.returns-clause-walk
returns-clause-walk c = listed-walk

pub returns-clause-closed : goal.returns-clause-closed
returns-clause-closed c = listed-closed
