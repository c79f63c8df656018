-- `check`: what it reads and says, and the limits that its inputs pass. It says yes with the certificate, which shows a relation that
-- proves the yes, or no with the report that listeners of these voices make.
use Rattle.std.specs.Prelude.{◌≡◌, ℕ, List, [], ◌∷◌, Option, Some}
use Rattle.abi_base.specs.declared.limit.Limit.{Limit}
use Rattle.abi_base.specs.declared.remark.Remark.{Remark}
use Rattle.commands.specs.Commands.{Wanted, named}
use Rattle.commands.specs.declared.input.Input.TheVariants.{Old, New}
use Rattle.commands.specs.declared.verdict.Verdict.{Verdict}
use Rattle.commands.specs.declared.verdict.Verdict.TheVariants.{Yes, No, Refused, Done}
use Rattle.report.specs.Listening.{Voice}
use Rattle.library_check.specs.Checks.{Compatible, IsCertificateText, IsReportText}
use Rattle.library_check.specs.Inputs.{library_at, rules_at}
use Rattle.library_check.specs.Limits.{CheckPasses}
use Rattle.library_check.specs.Relations.{IsRelationText}
use Rattle.library_check.specs.Remarks.{remark_on}

abbrev pub check_inputs : (rules : Option (List ℕ)) (old new : List ℕ) → List Wanted
check_inputs rules old new = library_at Old (named old) ∷ library_at New (named new) ∷ rules_at rules ∷ []

abbrev pub CheckSays : List Voice → List ℕ → List ℕ → List ℕ → Verdict → List ℕ → Type 0
CheckSays voices old new rules Yes text = Compatible old new rules × IsCertificateText old new rules text × IsRelationText old new rules text
CheckSays voices old new rules No text = (Compatible old new rules → ⊥) × IsReportText voices old new rules text
CheckSays voices old new rules Refused text = ⊥
CheckSays voices old new rules Done text = ⊥

abbrev pub check_says : List Voice → List (List ℕ) → Verdict → Option Remark → List ℕ → Type 0
check_says voices (old ∷ new ∷ rules ∷ []) v untyped text = CheckSays voices old new rules v text × (untyped ≡ Some (remark_on old new))
check_says voices all v untyped text = ⊥

abbrev pub check_passes : List (List ℕ) → Limit → Type 0
check_passes (old ∷ new ∷ rules ∷ []) limit = CheckPasses old new rules limit
check_passes all limit = ⊥
