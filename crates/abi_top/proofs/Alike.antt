-- Applications that import the same have one answer.
use Rattle.std.proofs.Common.{◌≡◌, ◌≤◌, ℕ, List, [], ◌∷◌, length, All, None, refl, sym, ◌∙◌, subst}
use Rattle.abi_base.specs.Limits.{input_limit}
use Rattle.abi_top.specs.Answer.{row_of}
use Rattle.abi_top.specs.OneAnswer.{AnswersAlike, VerdictsAlike}
use Rattle.abi_top.proofs.lemmas.ParsedArguments.{reply_of}
use Rattle.cert_check.specs.Compatible.{Sides}
use Rattle.cli_args.specs.Commands.{PlainRequest, app}
use Rattle.commands.specs.declared.outcome.Outcome.TheVariants.{Judged}
use Rattle.commands.specs.declared.verdict.Verdict.{Verdict}
use Rattle.commands.specs.declared.verdict.Verdict.TheVariants as verdict
use Rattle.commands.proofs.lemmas.Single.{judged_alone}
use Rattle.library_check.specs.Applications.{ImportTheSame, IsSaidOfUsed, sides_for}
use Rattle.library_check.specs.Rows.App.{AppSays}
use Rattle.library_check.specs.Voices.{TellsItsText}
use Rattle.library_read.specs.Faults.{library_fault}
use Rattle.report.specs.Listening.{Voice}
use Rattle.report.specs.styles.Wanted.{wanted_voices}

-- the laws on two applications that import the same
abbrev pub HaveOneAnswer : Type 0
HaveOneAnswer = (voices : List Voice) (program another old new rules : List ℕ) (v w : Verdict) (text answer : List ℕ) → All TellsItsText voices → length old ≤ input_limit → length new ≤ input_limit → library_fault old ≡ None → library_fault new ≡ None
    → ImportTheSame program another → AppSays voices program old new rules v text → AppSays voices another old new rules w answer → (v ≡ w) × (text ≡ answer)

abbrev pub HaveOneSides : Type 0
HaveOneSides = (program another old new rules : List ℕ) → ImportTheSame program another → sides_for program old new rules ≡ sides_for another old new rules

pub answers_alike : HaveOneAnswer → AnswersAlike
answers_alike one_answer call other rules_name other_rules_name report app_name old_name new_name other_app_name other_old_name other_new_name program another old new rules same_voices decided same is tells other_is other_tells
    v w untyped other_untyped text answer first second =
    let asked : PlainRequest = app rules_name report app_name old_name new_name in
    let again : PlainRequest = app other_rules_name report other_app_name other_old_name other_new_name in
    let voices = wanted_voices report call.voices in
    let on = judged_alone call.reading (row_of call asked).inputs (row_of call asked).says (program ∷ old ∷ new ∷ rules ∷ []) tells v untyped text (reply_of call asked is (Judged v untyped) text first) in
    let on_other = judged_alone other.reading (row_of other again).inputs (row_of other again).says (another ∷ old ∷ new ∷ rules ∷ []) other_tells w other_untyped answer (reply_of other again other_is (Judged w other_untyped) answer second) in
    let told = subst (λ (vs : List Voice). AppSays (wanted_voices report vs) another old new rules w answer) same_voices on_other.2.0 in
    let both = one_answer voices program another old new rules v w text answer decided on.0.1.0 on.0.1.1.0 on.1.1.0 on.1.1.1.0 same on.2.0 told in
    (both.0, on.2.1 ∙ sym on_other.2.1, both.1)

-- the verdict does not depend on the listeners
one_verdict : (voices others : List Voice) (program old new rules : List ℕ) (v w : Verdict) (text other : List ℕ) → AppSays voices program old new rules v text → AppSays others program old new rules w other → v ≡ w
one_verdict voices others program old new rules verdict.Yes verdict.Yes text other one two = refl
one_verdict voices others program old new rules verdict.Yes verdict.No text other one two = absurd (two.0 one.0)
one_verdict voices others program old new rules verdict.Yes verdict.Refused text other one two = absurd two
one_verdict voices others program old new rules verdict.Yes verdict.Done text other one two = absurd two
one_verdict voices others program old new rules verdict.No verdict.Yes text other one two = absurd (one.0 two.0)
one_verdict voices others program old new rules verdict.No verdict.No text other one two = refl
one_verdict voices others program old new rules verdict.No verdict.Refused text other one two = absurd two
one_verdict voices others program old new rules verdict.No verdict.Done text other one two = absurd two
one_verdict voices others program old new rules verdict.Refused w text other one two = absurd one
one_verdict voices others program old new rules verdict.Done w text other one two = absurd one

pub verdicts_alike : HaveOneSides → VerdictsAlike
verdicts_alike sides call other rules_name other_rules_name report other_report app_name old_name new_name other_app_name other_old_name other_new_name program another old new rules same is tells other_is other_tells
    v w untyped other_untyped text answer first second =
    let asked : PlainRequest = app rules_name report app_name old_name new_name in
    let again : PlainRequest = app other_rules_name other_report other_app_name other_old_name other_new_name in
    let voices = wanted_voices report call.voices in
    let others = wanted_voices other_report other.voices in
    let on = judged_alone call.reading (row_of call asked).inputs (row_of call asked).says (program ∷ old ∷ new ∷ rules ∷ []) tells v untyped text (reply_of call asked is (Judged v untyped) text first) in
    let on_other = judged_alone other.reading (row_of other again).inputs (row_of other again).says (another ∷ old ∷ new ∷ rules ∷ []) other_tells w other_untyped answer (reply_of other again other_is (Judged w other_untyped) answer second) in
    let said = subst (λ (s : Sides). IsSaidOfUsed voices s v text) (sides program another old new rules same) on.2.0 in
    (one_verdict voices others another old new rules v w text answer said on_other.2.0, on.2.1 ∙ sym on_other.2.1)
