-- The relation of the certificate.
use Rattle.cert_check.proofs.Sound.{IsCompatible-from_accepted}
use Rattle.cert_check.proofs.laws.an_accepted_certificate_is_a_proof.Goals as goal

pub returns : goal.returns
returns c = IsCompatible-from_accepted c.what_stands_for_classes_closes.ensures
