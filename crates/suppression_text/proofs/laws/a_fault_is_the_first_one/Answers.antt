use Rattle.suppression_text.proofs.FirstLemmas.{first_one}
use Rattle.suppression_text.proofs.laws.a_fault_is_the_first_one.Goals as goal

pub returns : goal.returns
returns c = first_one
