use Rattle.type_print.proofs.LawLemmas.{covers}
use Rattle.type_print.proofs.laws.clean_rows_cover_each_bit_once.Goals as goal

pub returns : goal.returns
returns c members bits rows numbered are clean = covers members bits rows numbered are clean
