-- `check`: what `run` promises of it.
use Rattle.std.specs.Prelude.{◌≡◌, ℕ, List, [], ◌∷◌, Option, Some}
use Rattle.abi_base.specs.declared.remark.Remark.{Remark}
use Rattle.abi_top.specs.Calls.{Call, Reads}
use Rattle.cli_args.specs.Commands.{check}
use Rattle.library_check.specs.Checks.{Agreed, Compatible, IsCertificateText, IsReportText, KeepsLeaves}
use Rattle.library_check.specs.Relations.{IsRelationText}
use Rattle.library_check.specs.Remarks.{remark_on}
use Rattle.library_check.specs.Rows.Check.{check_inputs}
use Rattle.report.specs.declared.styles.report_option.ReportStyle.{ReportStyle}
use Rattle.report.specs.styles.Wanted.{wanted_voices}

-- the command is `check`, and P holds for the style and the readable old library, new library and rule file
abbrev pub OnCheck : Call → (ReportStyle → List ℕ → List ℕ → List ℕ → Type 0) → Type 0
OnCheck call P =
    (rules_name : Option (List ℕ)) × (report : ReportStyle) × (old_name new_name old new rules : List ℕ)
    × Reads call (check rules_name report old_name new_name) (check_inputs rules_name old_name new_name) (old ∷ new ∷ rules ∷ []) × P report old new rules

-- ---- where P holds for the text that was appended

-- Yes: the new library may replace the old one in all that the rule file does not suppress. The text is the certificate, which the
-- checker accepts; it shows a relation between types that proves the yes.
abbrev pub CheckYes : Call → Option Remark → (List ℕ → Type 0) → Type 0
CheckYes call untyped P = OnCheck call (λ report old new rules.
    Compatible old new rules × (untyped ≡ Some (remark_on old new))
    × (text : List ℕ) × IsCertificateText old new rules text × IsRelationText old new rules text × P text)

-- No: the new library may not replace the old one. The text is what the listeners of the requested style made of the breaks.
abbrev pub CheckNo : Call → Option Remark → (List ℕ → Type 0) → Type 0
CheckNo call untyped P = OnCheck call (λ report old new rules.
    (Compatible old new rules → ⊥) × (untyped ≡ Some (remark_on old new))
    × (text : List ℕ) × IsReportText (wanted_voices report call.voices) old new rules text × P text)

-- the libraries agree on all accesses from the compared exports, or they do not
abbrev pub CheckAgrees : Call → Type 0
CheckAgrees call = OnCheck call (λ report old new rules. Agreed old new rules)

abbrev pub CheckDisagrees : Call → Type 0
CheckDisagrees call = OnCheck call (λ report old new rules. Agreed old new rules → ⊥)

-- the leaves on which these accesses land stay at their offsets
abbrev pub CheckKeepsLeaves : Call → Type 0
CheckKeepsLeaves call = OnCheck call (λ report old new rules. KeepsLeaves old new rules)
