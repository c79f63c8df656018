use Rattle.std.proofs.lemmas.Result.{err_from_is_err_and}
use Rattle.suppressions.proofs.WeightLemmas.{letters_past, letters_within}
use Rattle.suppressions.proofs.limits.check_letters.Goals as goal

pub returns-clause-within : goal.returns-clause-within
returns-clause-within c =
    letters_within c.args.old.now c.args.sections.now c.names_in.result c.letters_in.result c.weight_of.result c.saturating_mul.result c.of_many-budget.result c.names_in.ensures c.of_many-budget.ensures
    c.letters_in.ensures c.weight_of.ensures c.saturating_mul.ensures c.in_ok-take.ensures.within

pub returns-in_err-take-clause-past : goal.returns-in_err-take-clause-past
returns-in_err-take-clause-past c =
    let p = err_from_is_err_and c.from_residual.result c.from_residual.ensures.1 in
    rw p.1 (letters_past c.args.old.now c.args.sections.now c.names_in.result c.letters_in.result c.weight_of.result c.saturating_mul.result c.of_many-budget.result c.names_in.ensures c.of_many-budget.ensures
    c.letters_in.ensures c.weight_of.ensures c.saturating_mul.ensures c.in_err-take.ensures.past)
