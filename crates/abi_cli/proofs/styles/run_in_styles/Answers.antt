use Rattle.std.proofs.Common.{ℕ, List, subst}
use Rattle.std.specs.Io.KnownBytes.{Appends}
use Rattle.abi_top.specs.Answer.{Answers}
use Rattle.abi_top.specs.Calls.{call_of}
use Rattle.abi_top.specs.Verdicts.{Agrees, Disagrees, MeansNo, MeansYes}
use Rattle.report.specs.Listening.{Voice}
use Rattle.abi_cli.proofs.StyleLemmas.{four_added}
use Rattle.abi_cli.proofs.styles.run_in_styles.Goals as goal

pub returns-clause-answered : goal.returns-clause-answered
returns-clause-answered g c = λ has_memory written.
    subst (λ (vs : List Voice). (text : List ℕ) × Answers (call_of g.I.Inputs.told g.I.Inputs.faults g.I.Inputs.given g.I.Inputs.started vs c.args.words.now c.args.inputs.now c.run-ended.new.inputs) c.run-ended.result.outcome text × Appends (g.S.Sink.held c.args.sink.now) (g.S.Sink.held c.run-ended.new.sink) text)
    (four_added _ _ _ _ _ _ c.new-listeners.ensures.items c.in_ok-add_text.ensures.voices c.in_ok-add_table.ensures.voices c.in_ok-add_counts.ensures.voices c.in_ok-add_first.ensures.voices)
    (c.run-ended.ensures.answered has_memory written)

pub returns-clause-yes : goal.returns-clause-yes
returns-clause-yes g c = λ untyped is.
    subst (λ (vs : List Voice). MeansYes (call_of g.I.Inputs.told g.I.Inputs.faults g.I.Inputs.given g.I.Inputs.started vs c.args.words.now c.args.inputs.now c.run-ended.new.inputs) untyped (λ (text : List ℕ). Appends (g.S.Sink.held c.args.sink.now) (g.S.Sink.held c.run-ended.new.sink) text) × Agrees (call_of g.I.Inputs.told g.I.Inputs.faults g.I.Inputs.given g.I.Inputs.started vs c.args.words.now c.args.inputs.now c.run-ended.new.inputs))
    (four_added _ _ _ _ _ _ c.new-listeners.ensures.items c.in_ok-add_text.ensures.voices c.in_ok-add_table.ensures.voices c.in_ok-add_counts.ensures.voices c.in_ok-add_first.ensures.voices)
    (c.run-ended.ensures.yes untyped is, c.run-ended.ensures.yes_agreed untyped is)

pub returns-clause-no : goal.returns-clause-no
returns-clause-no g c = λ untyped is.
    subst (λ (vs : List Voice). MeansNo (call_of g.I.Inputs.told g.I.Inputs.faults g.I.Inputs.given g.I.Inputs.started vs c.args.words.now c.args.inputs.now c.run-ended.new.inputs) untyped (λ (text : List ℕ). Appends (g.S.Sink.held c.args.sink.now) (g.S.Sink.held c.run-ended.new.sink) text) × Disagrees (call_of g.I.Inputs.told g.I.Inputs.faults g.I.Inputs.given g.I.Inputs.started vs c.args.words.now c.args.inputs.now c.run-ended.new.inputs))
    (four_added _ _ _ _ _ _ c.new-listeners.ensures.items c.in_ok-add_text.ensures.voices c.in_ok-add_table.ensures.voices c.in_ok-add_counts.ensures.voices c.in_ok-add_first.ensures.voices)
    (c.run-ended.ensures.no untyped is, c.run-ended.ensures.no_agreed untyped is)
