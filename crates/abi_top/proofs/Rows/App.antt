-- `app`: what its verdict says, and that it says one thing.
use Rattle.std.proofs.Common.{◌≡◌, ◌≤◌, ℕ, List, [], ◌∷◌, length, All, Option, Some, None, sym, ◌∙◌}
use Rattle.abi_base.specs.Limits.{input_limit}
use Rattle.abi_base.specs.declared.remark.Remark.{Remark}
use Rattle.abi_top.specs.Calls.{Call}
use Rattle.abi_top.specs.Rows.App.{OnApp}
use Rattle.cli_args.specs.Commands.{app}
use Rattle.cli_args.specs.ParsedArguments.{request, arguments_by}
use Rattle.commands.specs.Commands.{asks_of, places_of}
use Rattle.commands.specs.Faults.{AreReadable}
use Rattle.commands.specs.OneReply.{SaysOne}
use Rattle.commands.specs.Reading.{Gives}
use Rattle.commands.specs.declared.verdict.Verdict.{Verdict}
use Rattle.library_check.specs.Remarks.{remark_on}
use Rattle.library_check.specs.Rows.App.{AppSays, app_inputs, app_says}
use Rattle.library_check.specs.Voices.{TellsItsText}
use Rattle.library_read.specs.Faults.{library_fault}
use Rattle.report.specs.Listening.{Voice}
use Rattle.report.specs.declared.styles.report_option.ReportStyle.{ReportStyle}
use Rattle.report.specs.styles.Wanted.{wanted_voices}

module _ (call : Call) (v : Verdict) (untyped : Option Remark) (text : List ℕ) where
  abbrev pub OfApp : Type 0
  OfApp = OnApp call (λ report program old new rules. AppSays (wanted_voices report call.voices) program old new rules v text × (untyped ≡ Some (remark_on old new)))

  pub of_app : (rules_name : Option (List ℕ)) (report : ReportStyle) (app_name old_name new_name : List ℕ) → arguments_by call.words ≡ request (app rules_name report app_name old_name new_name)
      → (all : List (List ℕ)) → Gives call.reading.told (places_of (app_inputs rules_name app_name old_name new_name)) all → AreReadable (asks_of (app_inputs rules_name app_name old_name new_name)) all
      → app_says (wanted_voices report call.voices) all v untyped text → OfApp
  of_app rules_name report app_name old_name new_name is [] gives readable said = absurd said
  of_app rules_name report app_name old_name new_name is (a ∷ []) gives readable said = absurd said
  of_app rules_name report app_name old_name new_name is (a ∷ b ∷ []) gives readable said = absurd said
  of_app rules_name report app_name old_name new_name is (a ∷ b ∷ c ∷ []) gives readable said = absurd said
  of_app rules_name report app_name old_name new_name is (program ∷ old ∷ new ∷ rules ∷ []) gives readable said = (rules_name, report, app_name, old_name, new_name, program, old, new, rules, record { words = is; given = gives; readable = readable }, said)
  of_app rules_name report app_name old_name new_name is (a ∷ b ∷ c ∷ d ∷ e ∷ more) gives readable said = absurd said

-- the law by which it has one answer
abbrev pub HasOneApp : Type 0
HasOneApp = (voices : List Voice) (program old new rules : List ℕ) (v w : Verdict) (text other : List ℕ) → All TellsItsText voices → length old ≤ input_limit → length new ≤ input_limit → library_fault old ≡ None → library_fault new ≡ None
    → AppSays voices program old new rules v text → AppSays voices program old new rules w other → (v ≡ w) × (text ≡ other)

pub app_says_one : HasOneApp → (voices : List Voice) (rules_name : Option (List ℕ)) (app_name old_name new_name : List ℕ) → All TellsItsText voices → SaysOne (app_inputs rules_name app_name old_name new_name) (app_says voices)
app_says_one one_answer voices rules_name app_name old_name new_name decided [] short readable v w u x text other one two = absurd one
app_says_one one_answer voices rules_name app_name old_name new_name decided (a ∷ []) short readable v w u x text other one two = absurd one
app_says_one one_answer voices rules_name app_name old_name new_name decided (a ∷ b ∷ []) short readable v w u x text other one two = absurd one
app_says_one one_answer voices rules_name app_name old_name new_name decided (a ∷ b ∷ c ∷ []) short readable v w u x text other one two = absurd one
app_says_one one_answer voices rules_name app_name old_name new_name decided (program ∷ old ∷ new ∷ rules ∷ []) short readable v w u x text other one two =
    let both = one_answer voices program old new rules v w text other decided short.1.0 short.1.1.0 readable.1.0 readable.1.1.0 one.0 two.0 in
    (both.0, one.1 ∙ sym two.1, both.1)
app_says_one one_answer voices rules_name app_name old_name new_name decided (a ∷ b ∷ c ∷ d ∷ e ∷ more) short readable v w u x text other one two = absurd one
