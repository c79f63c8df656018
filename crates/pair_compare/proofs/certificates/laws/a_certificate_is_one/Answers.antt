use Rattle.pair_compare.proofs.certificates_lemmas.CertLemmas.{certs_same}
use Rattle.pair_compare.proofs.certificates.laws.a_certificate_is_one.Goals as goal

pub returns : goal.returns
returns c = certs_same
