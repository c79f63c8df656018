-- `app`: what `run` promises of it.
use Rattle.std.specs.Prelude.{◌≡◌, ℕ, List, [], ◌∷◌, Option, Some}
use Rattle.abi_base.specs.declared.remark.Remark.{Remark}
use Rattle.abi_top.specs.Calls.{Call, Reads}
use Rattle.cli_args.specs.Commands.{app}
use Rattle.library_check.specs.Applications.{AgreedFor, IsAppReportText, IsCompatibleFor, KeepsLeavesFor, uses_for}
use Rattle.library_check.specs.Remarks.{remark_on}
use Rattle.library_check.specs.Rows.App.{app_inputs}
use Rattle.report.specs.declared.styles.report_option.ReportStyle.{ReportStyle}
use Rattle.report.specs.styles.Wanted.{wanted_voices}

-- the command is `app`, and P holds for the style and the readable application, old library, new library and rule file
abbrev pub OnApp : Call → (ReportStyle → List ℕ → List ℕ → List ℕ → List ℕ → Type 0) → Type 0
OnApp call P =
    (rules_name : Option (List ℕ)) × (report : ReportStyle) × (app_name old_name new_name program old new rules : List ℕ)
    × Reads call (app rules_name report app_name old_name new_name) (app_inputs rules_name app_name old_name new_name) (program ∷ old ∷ new ∷ rules ∷ []) × P report program old new rules

-- ---- where P holds for the text that was appended

-- Yes: the new library may replace the old one in the exports that the application uses and that the rule file does not drop, if all
-- others are taken as dropped. The text names these exports.
abbrev pub AppYes : Call → Option Remark → (List ℕ → Type 0) → Type 0
AppYes call untyped P = OnApp call (λ report program old new rules.
    IsCompatibleFor program old new rules × (untyped ≡ Some (remark_on old new)) × P (uses_for program old new rules))

-- No: the new library may not replace the old one for the application. The text is what the listeners of the requested style made of
-- the breaks of exports that the application uses, and of their types.
abbrev pub AppNo : Call → Option Remark → (List ℕ → Type 0) → Type 0
AppNo call untyped P = OnApp call (λ report program old new rules.
    (IsCompatibleFor program old new rules → ⊥) × (untyped ≡ Some (remark_on old new))
    × (text : List ℕ) × IsAppReportText (wanted_voices report call.voices) program old new rules text × P text)

-- the libraries agree on all accesses from the exports that the application uses, or they do not
abbrev pub AppAgrees : Call → Type 0
AppAgrees call = OnApp call (λ report program old new rules. AgreedFor program old new rules)

abbrev pub AppDisagrees : Call → Type 0
AppDisagrees call = OnApp call (λ report program old new rules. AgreedFor program old new rules → ⊥)

-- the leaves on which these accesses land stay at their offsets
abbrev pub AppKeepsLeaves : Call → Type 0
AppKeepsLeaves call = OnApp call (λ report program old new rules. KeepsLeavesFor program old new rules)
