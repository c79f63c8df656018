-- `check`: what its verdict says, and that it says one thing.
use Rattle.std.proofs.Common.{◌≡◌, ◌≤◌, ℕ, List, [], ◌∷◌, length, All, Option, Some, refl, sym, ◌∙◌}
use Rattle.abi_base.specs.Limits.{input_limit}
use Rattle.abi_base.specs.declared.remark.Remark.{Remark}
use Rattle.abi_top.specs.Calls.{Call}
use Rattle.abi_top.specs.Rows.Check.{OnCheck}
use Rattle.cli_args.specs.Commands.{check}
use Rattle.cli_args.specs.ParsedArguments.{request, arguments_by}
use Rattle.commands.specs.Commands.{asks_of, places_of}
use Rattle.commands.specs.Faults.{AreReadable}
use Rattle.commands.specs.OneReply.{SaysOne}
use Rattle.commands.specs.Reading.{Gives}
use Rattle.commands.specs.declared.verdict.Verdict.{Verdict}
use Rattle.commands.specs.declared.verdict.Verdict.TheVariants as verdict
use Rattle.library_check.specs.Checks.{IsCertificateText, IsReportText}
use Rattle.library_check.specs.Inputs.{check_asks}
use Rattle.library_check.specs.Remarks.{remark_on}
use Rattle.library_check.specs.Rows.Check.{CheckSays, check_inputs, check_says}
use Rattle.library_check.specs.Voices.{TellsItsText}
use Rattle.report.specs.Listening.{Voice}
use Rattle.report.specs.declared.styles.report_option.ReportStyle.{ReportStyle}
use Rattle.report.specs.styles.Wanted.{wanted_voices}

module _ (call : Call) (v : Verdict) (untyped : Option Remark) (text : List ℕ) where
  abbrev pub OfCheck : Type 0
  OfCheck = OnCheck call (λ report old new rules. CheckSays (wanted_voices report call.voices) old new rules v text × (untyped ≡ Some (remark_on old new)))

  pub of_check : (rules_name : Option (List ℕ)) (report : ReportStyle) (old_name new_name : List ℕ) → arguments_by call.words ≡ request (check rules_name report old_name new_name)
      → (all : List (List ℕ)) → Gives call.reading.told (places_of (check_inputs rules_name old_name new_name)) all → AreReadable (asks_of (check_inputs rules_name old_name new_name)) all
      → check_says (wanted_voices report call.voices) all v untyped text → OfCheck
  of_check rules_name report old_name new_name is [] gives readable said = absurd said
  of_check rules_name report old_name new_name is (a ∷ []) gives readable said = absurd said
  of_check rules_name report old_name new_name is (a ∷ b ∷ []) gives readable said = absurd said
  of_check rules_name report old_name new_name is (old ∷ new ∷ rules ∷ []) gives readable said = (rules_name, report, old_name, new_name, old, new, rules, record { words = is; given = gives; readable = readable }, said)
  of_check rules_name report old_name new_name is (a ∷ b ∷ c ∷ d ∷ more) gives readable said = absurd said

-- the laws by which it has one text
pub record HasOneCheck : Type 0 where
  pub certificate : (old new rules text other : List ℕ) → length old ≤ input_limit → length new ≤ input_limit → AreReadable check_asks (old ∷ new ∷ rules ∷ [])
      → IsCertificateText old new rules text → IsCertificateText old new rules other → text ≡ other
  pub report : (voices : List Voice) (old new rules text other : List ℕ) → All TellsItsText voices → length old ≤ input_limit → length new ≤ input_limit → AreReadable check_asks (old ∷ new ∷ rules ∷ [])
      → IsReportText voices old new rules text → IsReportText voices old new rules other → text ≡ other

module _ (have : HasOneCheck) where
  one_check : (voices : List Voice) (old new rules : List ℕ) → All TellsItsText voices → length old ≤ input_limit → length new ≤ input_limit → AreReadable check_asks (old ∷ new ∷ rules ∷ [])
      → (v w : Verdict) (text other : List ℕ) → CheckSays voices old new rules v text → CheckSays voices old new rules w other → (v ≡ w) × (text ≡ other)
  one_check voices old new rules decided old_short new_short readable verdict.Yes verdict.Yes text other one two = (refl, have.certificate old new rules text other old_short new_short readable one.1 two.1)
  one_check voices old new rules decided old_short new_short readable verdict.Yes verdict.No text other one two = absurd (two.0 one.0)
  one_check voices old new rules decided old_short new_short readable verdict.Yes verdict.Refused text other one two = absurd two
  one_check voices old new rules decided old_short new_short readable verdict.Yes verdict.Done text other one two = absurd two
  one_check voices old new rules decided old_short new_short readable verdict.No verdict.Yes text other one two = absurd (one.0 two.0)
  one_check voices old new rules decided old_short new_short readable verdict.No verdict.No text other one two = (refl, have.report voices old new rules text other decided old_short new_short readable one.1 two.1)
  one_check voices old new rules decided old_short new_short readable verdict.No verdict.Refused text other one two = absurd two
  one_check voices old new rules decided old_short new_short readable verdict.No verdict.Done text other one two = absurd two
  one_check voices old new rules decided old_short new_short readable verdict.Refused w text other one two = absurd one
  one_check voices old new rules decided old_short new_short readable verdict.Done w text other one two = absurd one

  pub check_says_one : (voices : List Voice) (rules_name : Option (List ℕ)) (old_name new_name : List ℕ) → All TellsItsText voices → SaysOne (check_inputs rules_name old_name new_name) (check_says voices)
  check_says_one voices rules_name old_name new_name decided [] short readable v w u x text other one two = absurd one
  check_says_one voices rules_name old_name new_name decided (a ∷ []) short readable v w u x text other one two = absurd one
  check_says_one voices rules_name old_name new_name decided (a ∷ b ∷ []) short readable v w u x text other one two = absurd one
  check_says_one voices rules_name old_name new_name decided (old ∷ new ∷ rules ∷ []) short readable v w u x text other one two =
      let both = one_check voices old new rules decided short.0 short.1.0 readable v w text other one.0 two.0 in
      (both.0, one.1 ∙ sym two.1, both.1)
  check_says_one voices rules_name old_name new_name decided (a ∷ b ∷ c ∷ d ∷ more) short readable v w u x text other one two = absurd one
