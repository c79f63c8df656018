use Rattle.std.proofs.Common.{◌≡◌, ℕ, List, [], ◌∷◌, Option, refl, subst, sym}
use Rattle.std.specs.Io.KnownBytes.{Appends}
use Rattle.abi_top.specs.Answer.{Answers}
use Rattle.abi_top.specs.Calls.{Call, call_of}
use Rattle.abi_top.specs.Verdicts.{Agrees, Disagrees, MeansYes}
use Rattle.json_report.specs.Breaks.{json_voice}
use Rattle.report.specs.Listening.{Voice}
use Rattle.abi_json.proofs.NoLemmas.{ends_with, moved, told}
use Rattle.abi_json.proofs.told.told_of.Goals as goal

pub returns-clause-answered : goal.returns-clause-answered
returns-clause-answered g c = λ has_memory.
    let said = moved (λ (call : Call) (before after : Option (List ℕ)). (text : List ℕ) × Answers call c.run-ended.result.outcome text × Appends before after text)
    (λ (vs : List Voice). call_of g.I.Inputs.told g.I.Inputs.faults g.I.Inputs.given g.I.Inputs.started vs c.args.words.now c.args.inputs.now c.run-ended.new.inputs) _
    c.in_ok-add_alone.ensures.alone _ _ c.held.result.now c.new-answer.ensures c.held.ensures (c.run-ended.ensures.answered has_memory (c.is_unwritten.ensures c.if-is_unwritten.false)) in (
      c.held.result.now,
      c.in_ok-document.ensures,
      subst (λ (text : List ℕ). Answers (call_of g.I.Inputs.told g.I.Inputs.faults g.I.Inputs.given g.I.Inputs.started (json_voice ∷ []) c.args.words.now c.args.inputs.now c.run-ended.new.inputs) c.run-ended.result.outcome text) (sym said.2) said.1,
    )

pub returns-clause-yes : goal.returns-clause-yes
returns-clause-yes g c = λ untyped ends.
    let said = moved (λ (call : Call) (before after : Option (List ℕ)). Agrees call × MeansYes call untyped (λ (text : List ℕ). Appends before after text))
    (λ (vs : List Voice). call_of g.I.Inputs.told g.I.Inputs.faults g.I.Inputs.given g.I.Inputs.started vs c.args.words.now c.args.inputs.now c.run-ended.new.inputs) _
    c.in_ok-add_alone.ensures.alone _ _ c.held.result.now c.new-answer.ensures c.held.ensures (c.run-ended.ensures.yes_agreed untyped ends, c.run-ended.ensures.yes untyped ends) in
    (said.0, (c.held.result.now, c.in_ok-document.ensures, said.1))

pub returns-clause-no : goal.returns-clause-no
returns-clause-no g c = λ untyped ends. (
  subst (λ (vs : List Voice). Disagrees (call_of g.I.Inputs.told g.I.Inputs.faults g.I.Inputs.given g.I.Inputs.started vs c.args.words.now c.args.inputs.now c.run-ended.new.inputs)) c.in_ok-add_alone.ensures.alone (c.run-ended.ensures.no_agreed untyped ends),
  told (λ (vs : List Voice). call_of g.I.Inputs.told g.I.Inputs.faults g.I.Inputs.given g.I.Inputs.started vs c.args.words.now c.args.inputs.now c.run-ended.new.inputs) _ (λ vs. refl)
      c.in_ok-add_alone.ensures.alone _ _ c.held.result.now c.in_ok-document.document.items untyped c.new-answer.ensures c.held.ensures
      (ends_with _ c.run-ended.result.outcome untyped c.held.result.now c.in_ok-document.document.items ends c.in_ok-document.ensures) (c.run-ended.ensures.no untyped ends),
)
