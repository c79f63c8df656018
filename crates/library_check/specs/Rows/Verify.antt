-- `verify`: what it reads and says, and the limits that its inputs pass. It says yes if the certificate is accepted, and else it is
-- refused with the first condition that it does not meet.
use Rattle.std.specs.Prelude.{◌≡◌, ℕ, List, [], ◌∷◌, Option, None}
use Rattle.abi_base.specs.declared.limit.Limit.{Limit}
use Rattle.abi_base.specs.declared.remark.Remark.{Remark}
use Rattle.cert_check.specs.declared.refused.Refused.{Refused as Refusal}
use Rattle.commands.specs.Commands.{Asked, Wanted, named}
use Rattle.commands.specs.declared.input.Input.TheVariants.{Old, New, Rules, Certificate}
use Rattle.commands.specs.declared.verdict.Verdict.{Verdict}
use Rattle.commands.specs.declared.verdict.Verdict.TheVariants.{Yes, No, Refused, Done}
use Rattle.library_read.specs.Faults.{library_fault}
use Rattle.suppression_text.specs.Faults.{rule_fault}
use Rattle.library_check.specs.Checks.{Compatible}
use Rattle.library_check.specs.Inputs.{certificate_at, library_at, rules_at}
use Rattle.library_check.specs.Limits.{VerifyPasses}
use Rattle.library_check.specs.Relations.{IsRelationText}
use Rattle.library_check.specs.Text.{accepted_text, refused_text}
use Rattle.library_check.specs.Verifications.{IsAcceptedText, IsRefusedText, certificate_fault}

abbrev pub verify_inputs : (rules : Option (List ℕ)) (old new certificate : List ℕ) → List Wanted
verify_inputs rules old new certificate =
    library_at Old (named old) ∷ library_at New (named new) ∷ rules_at rules ∷ certificate_at Certificate certificate ∷ []

-- the same, whatever their names are
abbrev pub verify_asks : List Asked
verify_asks = (Old, library_fault) ∷ (New, library_fault) ∷ (Rules, rule_fault) ∷ (Certificate, certificate_fault) ∷ []

abbrev pub VerifySays : List ℕ → List ℕ → List ℕ → List ℕ → Verdict → List ℕ → Type 0
VerifySays old new rules certificate Yes text = Compatible old new rules × IsAcceptedText old new rules certificate × IsRelationText old new rules certificate × (text ≡ accepted_text)
VerifySays old new rules certificate Refused text = (refusal : Refusal) × IsRefusedText old new rules certificate refusal × (text ≡ refused_text refusal)
VerifySays old new rules certificate No text = ⊥
VerifySays old new rules certificate Done text = ⊥

abbrev pub verify_says : List (List ℕ) → Verdict → Option Remark → List ℕ → Type 0
verify_says (old ∷ new ∷ rules ∷ certificate ∷ []) v untyped text = VerifySays old new rules certificate v text × (untyped ≡ None)
verify_says all v untyped text = ⊥

abbrev pub verify_passes : List (List ℕ) → Limit → Type 0
verify_passes (old ∷ new ∷ rules ∷ certificate ∷ []) limit = VerifyPasses old new rules certificate limit
verify_passes all limit = ⊥
