-- `verify`: what `run` promises of it.
use Rattle.std.specs.Prelude.{ℕ, List, [], ◌∷◌, Option}
use Rattle.abi_top.specs.Calls.{Call, Reads}
use Rattle.cert_check.specs.declared.refused.Refused.{Refused as Refusal}
use Rattle.cli_args.specs.Commands.{verify}
use Rattle.library_check.specs.Checks.{Agreed, Compatible, KeepsLeaves}
use Rattle.library_check.specs.Relations.{IsRelationText}
use Rattle.library_check.specs.Rows.Verify.{verify_inputs}
use Rattle.library_check.specs.Text.{accepted_text, refused_text}
use Rattle.library_check.specs.Verifications.{IsAcceptedText, IsRefusedText}

-- the command is `verify`, and P holds for the readable libraries, rule file and certificate
abbrev pub OnVerify : Call → (List ℕ → List ℕ → List ℕ → List ℕ → Type 0) → Type 0
OnVerify call P =
    (rules_name : Option (List ℕ)) × (old_name new_name certificate_name old new rules certificate : List ℕ)
    × Reads call (verify rules_name old_name new_name certificate_name) (verify_inputs rules_name old_name new_name certificate_name) (old ∷ new ∷ rules ∷ certificate ∷ []) × P old new rules certificate

-- ---- where P holds for the text that was appended

-- Yes: the certificate is accepted, so that the new library may replace the old one; it shows a relation between types that proves
-- the yes.
abbrev pub VerifyYes : Call → (List ℕ → Type 0) → Type 0
VerifyYes call P = OnVerify call (λ old new rules certificate.
    IsAcceptedText old new rules certificate × Compatible old new rules × IsRelationText old new rules certificate × P accepted_text)

-- refused: the text names the first condition that the certificate does not meet
abbrev pub VerifyRefused : Call → (List ℕ → Type 0) → Type 0
VerifyRefused call P = OnVerify call (λ old new rules certificate.
    (refusal : Refusal) × IsRefusedText old new rules certificate refusal × P (refused_text refusal))

-- the libraries agree on all accesses from the compared exports
abbrev pub VerifyAgrees : Call → Type 0
VerifyAgrees call = OnVerify call (λ old new rules certificate. Agreed old new rules)

-- the leaves on which these accesses land stay at their offsets
abbrev pub VerifyKeepsLeaves : Call → Type 0
VerifyKeepsLeaves call = OnVerify call (λ old new rules certificate. KeepsLeaves old new rules)
