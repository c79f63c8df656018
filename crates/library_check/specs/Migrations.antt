-- What `migrate` promises: when a certificate of version 1 is migrated, given the bytes of two libraries, a rule file and the
-- certificate, and else the first condition that the migrated certificate does not meet.
use Rattle.std.specs.Prelude.{◌≡◌, ℕ, List, Option}
use Rattle.abi_base.specs.declared.fault.Fault.{Fault}
use Rattle.cert_check.specs.declared.refused.Refused.{Refused as Refusal}
use Rattle.cert_check.specs.Accepted.{IsAccepted}
use Rattle.cert_check.specs.Compatible.{Sides, IsCompatible}
use Rattle.cert_check.specs.FirstVersion.{migrated_case}
use Rattle.cert_text.specs.Certs.{PlainCert1, migrated}
use Rattle.cert_text.specs.Faults.{fault_of}
use Rattle.cert_text.specs.Grammar.{IsSpelled, IsSpelled1}
use Rattle.cert_text.specs.declared.line.Version.TheVariants.{One}
use Rattle.commands.specs.declared.verdict.Verdict.{Verdict}
use Rattle.commands.specs.declared.verdict.Verdict.TheVariants.{Yes, No, Refused, Done}
use Rattle.library_check.specs.Checks.{sides_of}
use Rattle.library_check.specs.Text.{refused_text}
use Rattle.library_check.specs.Verifications.{IsFirstRefusal}

-- ---- one certificate

-- What is said about a certificate of version 1: the text of the migrated certificate if that is accepted, which proves that the
-- new library may replace the old one; else the line on the refusal of the migrated certificate.
abbrev pub IsMigration : Sides → PlainCert1 → Verdict → List ℕ → Type 0
IsMigration s c Done text = IsCompatible s × IsAccepted (migrated_case s c) × IsSpelled text (migrated c)
IsMigration s c Refused text = (refusal : Refusal) × IsFirstRefusal (migrated_case s c) refusal × (text ≡ refused_text refusal)
IsMigration s c Yes text = ⊥
IsMigration s c No text = ⊥

-- ---- texts

-- the certificate text spells a certificate of version 1 whose migrated certificate is accepted, and the other text spells the
-- migrated one
pub record IsMigratedBy (s : Sides) (certificate text : List ℕ) : Type 0 where
  pub cert : PlainCert1
  pub spelled : IsSpelled1 certificate cert
  pub accepted : IsAccepted (migrated_case s cert)
  pub becomes : IsSpelled text (migrated cert)

-- the certificate text spells a certificate whose migrated certificate is refused
pub record IsUnmigratedBy (s : Sides) (certificate : List ℕ) (refusal : Refusal) : Type 0 where
  pub cert : PlainCert1
  pub spelled : IsSpelled1 certificate cert
  pub fails : IsFirstRefusal (migrated_case s cert) refusal

-- the text is that of the migrated certificate, which is accepted for these libraries and this rule file
abbrev pub IsMigratedText : List ℕ → List ℕ → List ℕ → List ℕ → List ℕ → Type 0
IsMigratedText old new rules certificate text = IsMigratedBy (sides_of old new rules) certificate text

-- this condition is the first that the migrated certificate does not meet
abbrev pub IsRefusedMigration : List ℕ → List ℕ → List ℕ → List ℕ → Refusal → Type 0
IsRefusedMigration old new rules certificate refusal = IsUnmigratedBy (sides_of old new rules) certificate refusal

-- ---- faults

-- the first fault of the text of a certificate of version 1
abbrev pub old_certificate_fault : List ℕ → Option Fault
old_certificate_fault certificate = fault_of One certificate
