use Rattle.cert_text.proofs.WholeLemmas.{what_is_spelled_has_no_fault}
use Rattle.cert_text.proofs.laws.what_is_spelled_has_no_fault.Goals as goal

pub returns : goal.returns
returns c = what_is_spelled_has_no_fault
