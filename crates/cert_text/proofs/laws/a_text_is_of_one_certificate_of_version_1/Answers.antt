use Rattle.cert_text.proofs.WholeLemmas.{a_text_is_of_one_certificate_of_version_1}
use Rattle.cert_text.proofs.laws.a_text_is_of_one_certificate_of_version_1.Goals as goal

pub returns : goal.returns
returns c = a_text_is_of_one_certificate_of_version_1
