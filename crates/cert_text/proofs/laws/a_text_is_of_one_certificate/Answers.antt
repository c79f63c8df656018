use Rattle.cert_text.proofs.WholeLemmas.{a_text_is_of_one_certificate}
use Rattle.cert_text.proofs.laws.a_text_is_of_one_certificate.Goals as goal

pub returns : goal.returns
returns c = a_text_is_of_one_certificate
