use Rattle.std.proofs.Common.{subst}
use Rattle.cert_check.specs.Compatible.{sides}
use Rattle.app_check.specs.Plain.{plain_imports}
use Rattle.pair_compare.specs.Judged.{IsRight}
use Rattle.library_check.proofs.AppLemmas.{said_yes}
use Rattle.library_check.proofs.applying.judge_used.Goals as goal

pub returns-in_ok-uses-in-Compatible-clause-said : goal.returns-in_ok-uses-in-Compatible-clause-said
returns-in_ok-uses-in-Compatible-clause-said g c =
    let inputs = c.args.inputs.now in
    said_yes (plain_imports c.args.imports.now) inputs.pair.old inputs.pair.new inputs.rules c.in_ok-marks.marks c.in-Compatible.field-0 c.in_ok-uses-in-Compatible.field-0.items c.in_ok-marks.ensures.marks
    (subst (IsRight (sides inputs.pair.old inputs.pair.new c.in_ok-marks.marks)) c.in-Compatible.is c.in_ok-compared.ensures.right) c.in_ok-uses-in-Compatible.ensures.made
