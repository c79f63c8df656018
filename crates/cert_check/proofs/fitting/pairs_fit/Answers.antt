-- Line by line.
use Rattle.std.proofs.Common.{◌<◌, ◌≤◌, refl, sym, arith}
use Rattle.std.proofs.lemmas.Result.{err_from_is_err_and}
use Rattle.abi_base.specs.declared.limit.Limit.TheVariants.{PairParts}
use Rattle.abi_base.proofs.lemmas.Budgets.{on_none}
use Rattle.pair_rules.specs.Weights.{weight_units}
use Rattle.cert_check.specs.Compatible.{sides}
use Rattle.cert_check.specs.Fitting.{line_weight, lines_allowed, lines_weight}
use Rattle.cert_check.proofs.FittingLemmas.{lines_more, lines_past, lines_whole}
use Rattle.cert_check.proofs.fitting.pairs_fit.Goals as goal

pub loop-line-init : goal.loop-line-init
loop-line-init c = on_none PairParts (weight_units c.args.old.now.graph c.args.new.now.graph) _ c.part_budget-budget.result (rw (c.graph.ensures, c.graph-2.ensures) at c.part_budget-budget.ensures)

pub loop-line-preserved : goal.loop-line-preserved
loop-line-preserved c =
    lines_more PairParts (weight_units c.args.old.now.graph c.args.new.now.graph) _ c.pairs_of-lines.result.now c.loop-line.line-index c.weight_of.result _ c.loop-line.budget c.take.new.self c.loop-line.invariant c.loop-line-test.true (sym c.weight_of.ensures) c.in_ok-take.ensures.within c.in_ok-take.ensures.taken

pub returns-in_err-take-clause-past : goal.returns-in_err-take-clause-past
returns-in_err-take-clause-past c =
    let p = err_from_is_err_and c.from_residual.result c.from_residual.ensures.1 in
    let s = sides c.args.old.now c.args.new.now c.args.marks.now in
    let above : lines_allowed s < lines_weight s c.pairs_of-lines.result.now =
    lines_past PairParts (weight_units c.args.old.now.graph c.args.new.now.graph) (line_weight s) c.pairs_of-lines.result.now c.loop-line.line-index c.weight_of.result _ c.loop-line.budget c.loop-line.invariant c.loop-line-test.true (sym c.weight_of.ensures) c.in_err-take.ensures.past in
    rw p.1 (rw c.pairs_of-lines.ensures.value at above)

pub returns-in_err-take-clause-named : goal.returns-in_err-take-clause-named
returns-in_err-take-clause-named c =
    let p = err_from_is_err_and c.from_residual.result c.from_residual.ensures.1 in
    rw (p.1, p.2, c.in_err-take.ensures.named, c.loop-line.invariant.limit_is) refl

pub returns-clause-within : goal.returns-clause-within
returns-clause-within c =
    let s = sides c.args.old.now c.args.new.now c.args.marks.now in
    let fits : lines_weight s c.pairs_of-lines.result.now ≤ lines_allowed s =
    lines_whole PairParts (weight_units c.args.old.now.graph c.args.new.now.graph) (line_weight s) c.pairs_of-lines.result.now c.loop-line.line-index c.loop-line.budget c.loop-line.invariant (omega arith) in
    rw c.pairs_of-lines.ensures.value at fits
