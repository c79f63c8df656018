use Rattle.std.specs.Option.{option_copied}
use Rattle.std.proofs.lemmas.Result.{err_from_is_err_and}
use Rattle.suppressions.proofs.CrowdLemmas.{soname_passes, weight_passes, letters_pass}
use Rattle.suppressions.proofs.marking.check_limits.Goals as goal

pub returns-in_err-check_soname-clause-past : goal.returns-in_err-check_soname-clause-past
returns-in_err-check_soname-clause-past c =
    let p = err_from_is_err_and c.from_residual.result c.from_residual.ensures.1 in
    rw (p.1, p.2) (soname_passes c.args.rules.now c.args.old.now c.in_err-check_soname.field-0.0 (option_copied c.soname.result) c.soname.ensures c.in_err-check_soname.ensures.named c.in_err-check_soname.ensures.past)

pub returns-in_err-check_weight-clause-past : goal.returns-in_err-check_weight-clause-past
returns-in_err-check_weight-clause-past c =
    let p = err_from_is_err_and c.from_residual-in_err-check_weight.result c.from_residual-in_err-check_weight.ensures.1 in
    rw (p.1, p.2) (weight_passes c.args.rules.now c.args.old.now c.in_err-check_weight.field-0.0 c.sections-sections.result.now c.sections-sections.ensures c.in_err-check_weight.ensures.named c.in_err-check_weight.ensures.past)

pub returns-in_err-check_letters-clause-past : goal.returns-in_err-check_letters-clause-past
returns-in_err-check_letters-clause-past c =
    let p = err_from_is_err_and c.from_residual-in_err-check_letters.result c.from_residual-in_err-check_letters.ensures.1 in
    rw (p.1, p.2) (letters_pass c.args.rules.now c.args.old.now c.in_err-check_letters.field-0.0 c.sections-sections.result.now c.sections-sections.ensures c.in_err-check_letters.ensures.named c.in_err-check_letters.ensures.past)
