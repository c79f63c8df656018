use Rattle.cert_check.specs.FirstVersion.{migrated_case}
use Rattle.cert_check.proofs.Sound.{IsAccepted-from}
use Rattle.cert_check.proofs.Migrated.{migrated_kept}
use Rattle.cert_check.proofs.laws.a_migrated_certificate_is_accepted.Goals as goal

pub returns : goal.returns
returns c = λ s cert one kept. IsAccepted-from (migrated_case s cert) (migrated_kept c.steps_lead_to_nodes.ensures.exact s cert one kept)
