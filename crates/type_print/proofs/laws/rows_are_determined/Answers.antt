use Rattle.type_print.proofs.LawLemmas.{determined}
use Rattle.type_print.proofs.laws.rows_are_determined.Goals as goal

pub returns : goal.returns
returns c = determined
