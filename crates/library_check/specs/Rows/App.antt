-- `app`: what it reads and says, and the limits that its inputs pass. It says yes with the exports that the application uses, or no
-- with the report on them that listeners of these voices make.
use Rattle.std.specs.Prelude.{◌≡◌, ℕ, List, [], ◌∷◌, Option, Some}
use Rattle.abi_base.specs.declared.limit.Limit.{Limit}
use Rattle.abi_base.specs.declared.remark.Remark.{Remark}
use Rattle.app_check.specs.Imports.{app_fault}
use Rattle.commands.specs.Commands.{Asked, Wanted, named}
use Rattle.commands.specs.declared.input.Input.TheVariants.{Old, New, App}
use Rattle.commands.specs.declared.verdict.Verdict.{Verdict}
use Rattle.report.specs.Listening.{Voice}
use Rattle.library_check.specs.Applications.{IsSaidOfUsed, sides_for}
use Rattle.library_check.specs.Inputs.{check_asks, library_at, rules_at}
use Rattle.library_check.specs.Limits.{AppPasses}
use Rattle.library_check.specs.Remarks.{remark_on}

-- the application is checked only for the faults that prevent reading its imports
abbrev pub app_inputs : (rules : Option (List ℕ)) (program old new : List ℕ) → List Wanted
app_inputs rules program old new =
    record { which = App; source = named program; fault_in = app_fault } ∷ library_at Old (named old) ∷ library_at New (named new) ∷ rules_at rules ∷ []

-- the same, whatever their names are
abbrev pub app_asks : List Asked
app_asks = (App, app_fault) ∷ check_asks

abbrev pub AppSays : List Voice → List ℕ → List ℕ → List ℕ → List ℕ → Verdict → List ℕ → Type 0
AppSays voices program old new rules v text = IsSaidOfUsed voices (sides_for program old new rules) v text

abbrev pub app_says : List Voice → List (List ℕ) → Verdict → Option Remark → List ℕ → Type 0
app_says voices (program ∷ old ∷ new ∷ rules ∷ []) v untyped text = AppSays voices program old new rules v text × (untyped ≡ Some (remark_on old new))
app_says voices all v untyped text = ⊥

abbrev pub app_passes : List (List ℕ) → Limit → Type 0
app_passes (program ∷ old ∷ new ∷ rules ∷ []) limit = AppPasses program old new rules limit
app_passes all limit = ⊥
