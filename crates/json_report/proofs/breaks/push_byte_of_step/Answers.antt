use Rattle.std.proofs.Common.{◌≡◌, sym, ap, arith, ◌∙◌}
use Rattle.std.proofs.lemmas.List.{take_rest}
use Rattle.json_report.specs.Breaks.{goes_on}
use Rattle.json_report.proofs.StepLemmas.{step_goes_on}
use Rattle.json_report.proofs.breaks.push_byte_of_step.Goals as goal

pub returns-clause-appended : goal.returns-clause-appended
returns-clause-appended c =
    let none : c.args.passed ≡ 0 = omega (arith, c.if-passed-gt0.false) in
    let on = sym (ap goes_on (take_rest c.args.path.now c.args.i)) ∙ (sym c.goes_on.ensures ∙ c.if-goes_on.false) in
    rw (c.in_ok-push_escaped.ensures.appended, none) (step_goes_on c.args.path.now c.args.i _ c.requires c.args.text.now.items on)
