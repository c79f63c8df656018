-- By the lemmas of what is given.
use Rattle.cert_check.proofs.Numbered.{stand_in_order}
use Rattle.cert_check.proofs.laws.lines_stand_in_the_order_of_their_numbers.Goals as goal

pub returns : goal.returns
returns c = stand_in_order
