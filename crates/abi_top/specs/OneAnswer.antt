-- If the bytes of all inputs are known, a call has one answer.
use Rattle.std.specs.Prelude.{◌≡◌, ◌⊎◌, ◌≤◌, ℕ, List, [], ◌∷◌, length, All, Option}
use Rattle.abi_base.specs.Limits.{input_limit}
use Rattle.abi_base.specs.declared.remark.Remark.{Remark}
use Rattle.abi_top.specs.Answer.{Answers, row_of}
use Rattle.abi_top.specs.Calls.{Call}
use Rattle.library_check.specs.Text.{accepted_text}
use Rattle.cli_args.specs.Commands.{PlainRequest, app, check, verify}
use Rattle.cli_args.specs.ParsedArguments.{request, usage, help, version, arguments_by}
use Rattle.commands.specs.Commands.{places_of}
use Rattle.commands.specs.OneReply.{TellsEach}
use Rattle.commands.specs.declared.input.Input.{Input}
use Rattle.commands.specs.declared.outcome.Outcome.{Outcome}
use Rattle.commands.specs.declared.outcome.Outcome.TheVariants.{Judged, ReadFault}
use Rattle.commands.specs.declared.verdict.Verdict.{Verdict}
use Rattle.commands.specs.declared.verdict.Verdict.TheVariants.{Yes}
use Rattle.library_check.specs.Applications.{ImportTheSame}
use Rattle.library_check.specs.Voices.{TellsItsText}
use Rattle.report.specs.Listening.{Voice}
use Rattle.report.specs.styles.Wanted.{wanted_voices}
use Rattle.report.specs.declared.styles.report_option.ReportStyle.{ReportStyle}

-- no reading failed
abbrev pub IsNoReadFault : Outcome → Type 0
IsNoReadFault outcome = (which : Input) → outcome ≡ ReadFault which → ⊥

-- the rows determine the texts of the wanted listeners
abbrev pub AreTextsDecided : List Voice → PlainRequest → Type 0
AreTextsDecided voices (check rules report old new) = All TellsItsText (wanted_voices report voices)
AreTextsDecided voices (app rules report program old new) = All TellsItsText (wanted_voices report voices)
AreTextsDecided voices other = Unit {0}

-- the arguments make a request whose inputs have known bytes, and the rows determine the texts of its wanted listeners
abbrev pub TellsAll : Call → Type 0
TellsAll call =
    (asked : PlainRequest) × (arguments_by call.words ≡ request asked) × AreTextsDecided call.voices asked
    × (all : List (List ℕ)) × TellsEach call.reading.told (places_of (row_of call asked).inputs) all

-- If the arguments of a call are wrong, request the help or the version, or make a request whose inputs have known bytes, any two
-- answers have equal outcomes and equal texts. A read fault is left out, because it depends on what fails in the call.
abbrev pub OneAnswer : Type 0
OneAnswer =
    (call : Call) → (arguments_by call.words ≡ usage) ⊎ ((arguments_by call.words ≡ help) ⊎ ((arguments_by call.words ≡ version) ⊎ TellsAll call)) → (one two : Outcome) (text other : List ℕ) → IsNoReadFault one → IsNoReadFault two
    → Answers call one text → Answers call two other → (one ≡ two) × (text ≡ other)

-- `verify` accepts what `check` prints on yes: if a call answers `check` with yes and this text, which is within the limit, then
-- any other call answers `verify` on the same bytes, with this text as the certificate, with yes, unless reading fails.
abbrev pub AcceptsWhatCheckPrints : Type 0
AcceptsWhatCheckPrints =
    (call other : Call) (rules_name : Option (List ℕ)) (report : ReportStyle) (old_name new_name certificate_name old new rules text : List ℕ) (untyped : Option Remark)
    → arguments_by call.words ≡ request (check rules_name report old_name new_name)
    → TellsEach call.reading.told (places_of (row_of call (check rules_name report old_name new_name)).inputs) (old ∷ new ∷ rules ∷ [])
    → Answers call (Judged Yes untyped) text → length text ≤ input_limit
    → arguments_by other.words ≡ request (verify rules_name old_name new_name certificate_name)
    → TellsEach other.reading.told (places_of (row_of other (verify rules_name old_name new_name certificate_name)).inputs) (old ∷ new ∷ rules ∷ text ∷ [])
    → (outcome : Outcome) (answer : List ℕ) → IsNoReadFault outcome → Answers other outcome answer
    → (u : Option Remark) × (outcome ≡ Judged Yes u) × (answer ≡ accepted_text)

-- Two calls of `app` have the same style and listeners with the same voices, whose texts the rows determine. The known bytes of
-- their inputs are the same, except for the applications, which import the same. If both calls are answered with a verdict, the
-- verdicts and the texts are equal.
abbrev pub AnswersAlike : Type 0
AnswersAlike =
    (call other : Call) (rules_name other_rules_name : Option (List ℕ)) (report : ReportStyle) (app_name old_name new_name other_app_name other_old_name other_new_name program another old new rules : List ℕ)
    → other.voices ≡ call.voices → All TellsItsText (wanted_voices report call.voices) → ImportTheSame program another
    → arguments_by call.words ≡ request (app rules_name report app_name old_name new_name)
    → TellsEach call.reading.told (places_of (row_of call (app rules_name report app_name old_name new_name)).inputs) (program ∷ old ∷ new ∷ rules ∷ [])
    → arguments_by other.words ≡ request (app other_rules_name report other_app_name other_old_name other_new_name)
    → TellsEach other.reading.told (places_of (row_of other (app other_rules_name report other_app_name other_old_name other_new_name)).inputs) (another ∷ old ∷ new ∷ rules ∷ [])
    → (v w : Verdict) (untyped other_untyped : Option Remark) (text answer : List ℕ) → Answers call (Judged v untyped) text → Answers other (Judged w other_untyped) answer
    → (v ≡ w) × (untyped ≡ other_untyped) × (text ≡ answer)

-- Two calls of `app` of any styles, with any listeners. The known bytes of their inputs are the same, except for the applications, which
-- import the same. If both calls are answered with a verdict, the verdicts are equal, and so are the remarks on exports without types.
abbrev pub VerdictsAlike : Type 0
VerdictsAlike =
    (call other : Call) (rules_name other_rules_name : Option (List ℕ)) (report other_report : ReportStyle) (app_name old_name new_name other_app_name other_old_name other_new_name program another old new rules : List ℕ)
    → ImportTheSame program another
    → arguments_by call.words ≡ request (app rules_name report app_name old_name new_name)
    → TellsEach call.reading.told (places_of (row_of call (app rules_name report app_name old_name new_name)).inputs) (program ∷ old ∷ new ∷ rules ∷ [])
    → arguments_by other.words ≡ request (app other_rules_name other_report other_app_name other_old_name other_new_name)
    → TellsEach other.reading.told (places_of (row_of other (app other_rules_name other_report other_app_name other_old_name other_new_name)).inputs) (another ∷ old ∷ new ∷ rules ∷ [])
    → (v w : Verdict) (untyped other_untyped : Option Remark) (text answer : List ℕ) → Answers call (Judged v untyped) text → Answers other (Judged w other_untyped) answer
    → (v ≡ w) × (untyped ≡ other_untyped)
