-- `compose`: what it reads and says, and the limits that its inputs pass. It says yes with the certificate that both compose, which
-- proves that the last library may replace the first; or it is refused with the certificate that is not accepted, or with what is lost
-- between two accepted ones.
use Rattle.std.specs.Prelude.{◌≡◌, ℕ, List, [], ◌∷◌, Option, None}
use Rattle.abi_base.specs.declared.limit.Limit.{Limit}
use Rattle.abi_base.specs.declared.remark.Remark.{Remark}
use Rattle.commands.specs.Commands.{Asked, Wanted, named}
use Rattle.commands.specs.declared.input.Input.TheVariants.{First, Middle, Last, Certificate1, Certificate2}
use Rattle.commands.specs.declared.verdict.Verdict.{Verdict}
use Rattle.commands.specs.declared.verdict.Verdict.TheVariants.{Yes, No, Refused, Done}
use Rattle.library_read.specs.Faults.{library_fault}
use Rattle.library_check.specs.Checks.{Compatible}
use Rattle.library_check.specs.Compositions.{ComposesNone, IsComposedText, PlainFiles}
use Rattle.library_check.specs.Inputs.{certificate_at, library_at}
use Rattle.library_check.specs.Limits.{ComposePasses, LibrariesPass}
use Rattle.library_check.specs.Verifications.{certificate_fault}

abbrev pub compose_inputs : (first middle last certificate1 certificate2 : List ℕ) → List Wanted
compose_inputs first middle last certificate1 certificate2 =
    library_at First (named first) ∷ library_at Middle (named middle) ∷ library_at Last (named last)
    ∷ certificate_at Certificate1 certificate1 ∷ certificate_at Certificate2 certificate2 ∷ []

-- the same, whatever their names are
abbrev pub compose_asks : List Asked
compose_asks = (First, library_fault) ∷ (Middle, library_fault) ∷ (Last, library_fault) ∷ (Certificate1, certificate_fault) ∷ (Certificate2, certificate_fault) ∷ []

abbrev pub ComposeSays : PlainFiles → Verdict → List ℕ → Type 0
ComposeSays p Yes text = Compatible p.first p.last [] × IsComposedText p text
ComposeSays p Refused text = ComposesNone p (λ line. text ≡ line)
ComposeSays p No text = ⊥
ComposeSays p Done text = ⊥

abbrev pub compose_says : List (List ℕ) → Verdict → Option Remark → List ℕ → Type 0
compose_says (first ∷ middle ∷ last ∷ certificate1 ∷ certificate2 ∷ []) v untyped text =
    ComposeSays (record { first = first; middle = middle; last = last; certificate1 = certificate1; certificate2 = certificate2 }) v text × (untyped ≡ None)
compose_says all v untyped text = ⊥

abbrev pub compose_passes : List (List ℕ) → Limit → Type 0
compose_passes (first ∷ middle ∷ last ∷ certificate1 ∷ certificate2 ∷ []) limit =
    ComposePasses (record { first = first; middle = middle; last = last; certificate1 = certificate1; certificate2 = certificate2 }) limit
compose_passes all limit = ⊥

-- ---- the three libraries

abbrev pub chain_asks : List Asked
chain_asks = (First, library_fault) ∷ (Middle, library_fault) ∷ (Last, library_fault) ∷ []

abbrev pub chain_passes : List (List ℕ) → Limit → Type 0
chain_passes (first ∷ middle ∷ last ∷ []) limit = LibrariesPass first middle last limit
chain_passes all limit = ⊥
