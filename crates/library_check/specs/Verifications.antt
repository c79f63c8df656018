-- What `verify` promises: when a certificate is accepted, given the bytes of two libraries, a rule file and the certificate, and
-- else which condition fails first.
use Rattle.std.specs.Prelude.{◌≡◌, ℕ, List, Option, Some, None}
use Rattle.abi_base.specs.declared.fault.Fault.{Fault}
use Rattle.cert_check.specs.declared.refused.Refused.{Refused}
use Rattle.cert_check.specs.Accepted.{Case, Place, IsAccepted, IsFirstFailing, places, refused}
use Rattle.cert_check.specs.Compatible.{Sides, IsCompatible}
use Rattle.cert_text.specs.Certs.{PlainCert}
use Rattle.cert_text.specs.Faults.{fault_of}
use Rattle.cert_text.specs.Grammar.{IsSpelled}
use Rattle.cert_text.specs.declared.line.Version.TheVariants.{Two}
use Rattle.library_check.specs.Checks.{Compatible, sides_of}

-- ---- one certificate

-- a certificate for two libraries and what is compared between them
abbrev pub case_for : Sides → PlainCert → Case
case_for s cert = record { sides = s; cert = cert }

-- the refusal is for the first condition that the certificate does not meet
pub record IsFirstRefusal (c : Case) (refusal : Refused) : Type 0 where
  pub place : Place
  pub first : IsFirstFailing c (places c) place
  pub is : refusal ≡ refused c place

-- the first condition that a certificate does not meet; if there is none, the certificate is accepted, which proves that the new
-- library may replace the old one
abbrev pub IsSettled : Case → Option Refused → Type 0
IsSettled c None = IsCompatible c.sides × IsAccepted c
IsSettled c (Some refusal) = IsFirstRefusal c refusal

-- ---- texts

-- the text spells a certificate that is accepted
pub record IsAcceptance (s : Sides) (text : List ℕ) : Type 0 where
  pub cert : PlainCert
  pub spelled : IsSpelled text cert
  pub accepted : IsAccepted (case_for s cert)

-- the text spells a certificate that is refused
pub record IsRejection (s : Sides) (text : List ℕ) (refusal : Refused) : Type 0 where
  pub cert : PlainCert
  pub spelled : IsSpelled text cert
  pub fails : IsFirstRefusal (case_for s cert) refusal

-- the certificate text spells a certificate that is accepted for these libraries and this rule file
abbrev pub IsAcceptedText : List ℕ → List ℕ → List ℕ → List ℕ → Type 0
IsAcceptedText old new rules certificate = IsAcceptance (sides_of old new rules) certificate

-- the certificate text spells a certificate that is refused for this condition, the first that it does not meet
abbrev pub IsRefusedText : List ℕ → List ℕ → List ℕ → List ℕ → Refused → Type 0
IsRefusedText old new rules certificate refusal = IsRejection (sides_of old new rules) certificate refusal

-- the first condition that a readable certificate does not meet; if there is none, the certificate is accepted
abbrev pub IsVerified : List ℕ → List ℕ → List ℕ → List ℕ → Option Refused → Type 0
IsVerified old new rules certificate None = Compatible old new rules × IsAcceptedText old new rules certificate
IsVerified old new rules certificate (Some refusal) = IsRefusedText old new rules certificate refusal

-- ---- faults

-- the first fault of the text of a certificate
abbrev pub certificate_fault : List ℕ → Option Fault
certificate_fault certificate = fault_of Two certificate
