use Rattle.suppression_text.proofs.FirstLemmas.{faultless}
use Rattle.suppression_text.proofs.laws.without_a_fault_nothing_is_wrong.Goals as goal

pub returns : goal.returns
returns c = faultless
