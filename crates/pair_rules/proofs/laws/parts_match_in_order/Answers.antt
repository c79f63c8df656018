-- Counts before two parts are equal, or too many are asked for.
use Rattle.pair_rules.proofs.Matches.{IsMatch-from_some, some_from_IsMatch, none_from_few, few_from_none}
use Rattle.pair_rules.proofs.laws.parts_match_in_order.Goals as goal

pub returns-clause-found : goal.returns-clause-found
returns-clause-found c v w i j = (IsMatch-from_some v w i j, some_from_IsMatch v w i j)

pub returns-clause-missing : goal.returns-clause-missing
returns-clause-missing c v w i = (few_from_none v w i, none_from_few v w i)
