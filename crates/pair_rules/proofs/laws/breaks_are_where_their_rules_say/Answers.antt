-- What is in the list, both ways.
use Rattle.pair_rules.proofs.Occurrences.{asked_and_broken, among_breaks}
use Rattle.pair_rules.proofs.laws.breaks_are_where_their_rules_say.Goals as goal

pub returns : goal.returns
returns c v w b = (asked_and_broken v w b, λ both. among_breaks v w b both.0 both.1)
