use Rattle.cert_text.specs.Certs.{migrated}
use Rattle.library_check.specs.Checks.{sides_of}
use Rattle.library_check.proofs.MigrationLemmas.{accepted}
use Rattle.library_check.proofs.laws.what_is_migrated_is_accepted.Goals as goal

pub returns-clause-readable : goal.returns-clause-readable
returns-clause-readable c = λ old new rules certificate text is. c.what_is_spelled_has_no_fault.ensures text (migrated is.cert) is.becomes

pub returns-clause-accepted : goal.returns-clause-accepted
returns-clause-accepted c = λ old new rules certificate text is. accepted (sides_of old new rules) certificate text is
