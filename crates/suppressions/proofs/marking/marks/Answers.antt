use Rattle.std.proofs.Common.{subst, sym}
use Rattle.std.proofs.lemmas.Result.{err_from_is_err_and}
use Rattle.suppressions.specs.Marks.{AreEvenMarks}
use Rattle.suppressions.proofs.CrowdLemmas.{handles_pass}
use Rattle.suppressions.proofs.MarkLemmas.{marks_are, marks_are_even}
use Rattle.suppressions.proofs.marking.marks.Goals as goal

pub returns-clause-marks : goal.returns-clause-marks
returns-clause-marks c = marks_are c.args.rules.now c.args.old.now c.digest.result c.sections.result.now c.in_ok-flags.flags c.digest.ensures c.sections.ensures c.in_ok-flags.ensures.is

pub returns-clause-even : goal.returns-clause-even
returns-clause-even c = subst (AreEvenMarks c.args.old.now) (sym (returns-clause-marks c)) (marks_are_even c.args.rules.now c.args.old.now)

pub returns-in_err-flags-clause-past : goal.returns-in_err-flags-clause-past
returns-in_err-flags-clause-past c =
    let p = err_from_is_err_and c.from_residual-in_err-flags.result c.from_residual-in_err-flags.ensures.1 in
    rw (p.1, p.2) (handles_pass c.args.rules.now c.args.old.now c.in_err-flags.field-0.0 c.sections.result.now c.sections.ensures c.in_err-flags.ensures.past)
