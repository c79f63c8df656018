-- One row more is taken.
use Rattle.std.proofs.Common.{◌≡◌, ◌∙◌, refl, sym, ap, take, take_all, subst, List, arith}
use Rattle.std.proofs.lemmas.Result.{err_from_is_err_and}
use Rattle.report.specs.declared.row.Row.{Row}
use Rattle.pair_compare.specs.Limits.{row_size}
use Rattle.pair_compare.specs.reports.Rooms.{IsTaken}
use Rattle.pair_compare.proofs.reports_lemmas.Rooms.{taken_more, taken_past}
use Rattle.pair_compare.proofs.reports.rows.take_rows.Goals as goal

pub loop-k-preserved : goal.loop-k-preserved
loop-k-preserved c =
    taken_more c.args.room.now.most row_size c.args.rows.now c.loop-k.k c.size_of.result c.index-rows-k.result c.loop-k.room c.take.new.self c.loop-k.invariant c.loop-k-test.true (ap row_size (sym c.index-rows-k.is) ∙ sym c.size_of.ensures) c.in_ok-take.ensures.within c.in_ok-take.ensures.taken

pub returns-in_err-take-clause-past : goal.returns-in_err-take-clause-past
returns-in_err-take-clause-past c =
    let p = err_from_is_err_and c.from_residual.result c.from_residual.ensures.1 in
    rw (p.1, p.2, c.in_err-take.ensures.named, c.loop-k.invariant.limit_is)
    (refl, taken_past c.args.room.now.most row_size c.args.rows.now c.loop-k.k c.size_of.result c.index-rows-k.result c.loop-k.room c.loop-k.invariant c.loop-k-test.true (ap row_size (sym c.index-rows-k.is) ∙ sym c.size_of.ensures) c.in_err-take.ensures.past)

pub returns-clause-counted : goal.returns-clause-counted
returns-clause-counted c =
    let whole : take c.loop-k.k c.args.rows.now ≡ c.args.rows.now = take_all c.loop-k.k c.args.rows.now (omega arith) in
    subst (λ (rows : List Row). IsTaken c.args.room.now.most row_size rows c.loop-k.room) whole c.loop-k.invariant
