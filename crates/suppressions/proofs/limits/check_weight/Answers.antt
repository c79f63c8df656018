use Rattle.std.proofs.lemmas.Result.{err_from_is_err_and}
use Rattle.suppressions.proofs.WeightLemmas.{weight_past, weight_within}
use Rattle.suppressions.proofs.limits.check_weight.Goals as goal

pub returns-clause-within : goal.returns-clause-within
returns-clause-within c = weight_within c.args.sections.now c.weight_of.result c.of-budget.result c.of-budget.ensures c.weight_of.ensures c.in_ok-take.ensures.within

pub returns-in_err-take-clause-past : goal.returns-in_err-take-clause-past
returns-in_err-take-clause-past c =
    let p = err_from_is_err_and c.from_residual.result c.from_residual.ensures.1 in
    rw p.1 (weight_past c.args.sections.now c.weight_of.result c.of-budget.result c.of-budget.ensures c.weight_of.ensures c.in_err-take.ensures.past)
