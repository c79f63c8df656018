use Rattle.type_print.proofs.LawLemmas.{name_clashes}
use Rattle.type_print.proofs.laws.rows_name_clashes.Goals as goal

pub returns : goal.returns
returns c = name_clashes
