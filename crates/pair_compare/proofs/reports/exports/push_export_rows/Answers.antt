-- Export by export.
use Rattle.std.proofs.Common.{◌≤◌, ◌∙◌, ◌+◌, List, ap, subst, length, arith}
use Rattle.std.specs.List.{sum_by}
use Rattle.std.proofs.lemmas.List.{length-map}
use Rattle.std.proofs.lemmas.Result.{err_from_is_err_and}
use Rattle.abi_base.proofs.lemmas.Outcomes.{on_limit_weaker}
use Rattle.abi_types.specs.Plain.{plain_export}
use Rattle.report.specs.declared.row.Row.{Row}
use Rattle.pair_compare.specs.BoundPair.{sides_of}
use Rattle.pair_compare.specs.Limits.{row_size}
use Rattle.pair_compare.specs.reports.Rooms.{IsTaken}
use Rattle.pair_compare.proofs.reports_lemmas.ExportLemmas.{exports_none, exports_more, exports_all}
use Rattle.pair_compare.proofs.reports_lemmas.Rooms.{front_taken, moved_taken, upto_past}
use Rattle.pair_compare.proofs.reports.exports.push_export_rows.Goals as goal

pub take_rows-requires : goal.take_rows-requires
take_rows-requires c = record {
  inside = omega arith;
  counted = subst (λ (rows : List Row). IsTaken c.args.rows.now.room.most row_size rows c.args.rows.now.room) c.requires.none c.requires.counted;
}

pub returns-in_err-take_rows-clause-past : goal.returns-in_err-take_rows-clause-past
returns-in_err-take_rows-clause-past c =
    let p = err_from_is_err_and c.from_residual-in_err-take_rows.result c.from_residual-in_err-take_rows.ensures.1 in
    let s = sides_of c.args.ground.now in
    let start = c.args.rows.now.list in
    let grown = c.as_slice.ensures ∙ exports_none s start c.push_soname_rows.new.rows _ _ c.soname.ensures c.soname-2.ensures c.in_ok-push_soname_rows.ensures.appended in
    let whole = ap (sum_by row_size) grown in
    rw (p.1, p.2) (on_limit_weaker c.in_err-take_rows.field-0.0 _ _ (λ l h. (h.0, upto_past s start c.args.rows.now.room.most 0 (omega arith) (omega (arith, h.1, whole)))) c.in_err-take_rows.ensures.past)

pub exports-init : goal.exports-init
exports-init c = record {
  rows = exports_none (sides_of c.args.ground.now) c.args.rows.now.list c.push_soname_rows.new.rows _ _ c.soname.ensures c.soname-2.ensures c.in_ok-push_soname_rows.ensures.appended;
  counted = subst (λ (rows : List Row). IsTaken c.args.rows.now.room.most row_size rows c.take_rows.new.room) c.as_slice.ensures c.in_ok-take_rows.ensures.counted;
}

pub take_rows-requires-in-exports : goal.take_rows-requires-in-exports
take_rows-requires-in-exports c =
    let kept = front_taken c.args.rows.now.room.most c.exports.rows.list c.as_slice-first.result.now c.as_slice-in-exports.result.now _ c.exports.rows.room c.as_slice-first.ensures (c.as_slice-in-exports.ensures ∙ c.in_ok-push_at.ensures.appended) c.exports.invariant.counted in
    record { inside = kept.0; counted = kept.1 }

pub returns-in_err-take_rows-2-clause-past : goal.returns-in_err-take_rows-2-clause-past
returns-in_err-take_rows-2-clause-past c =
    let p = err_from_is_err_and c.from_residual-in_err-take_rows-2.result c.from_residual-in_err-take_rows-2.ensures.1 in
    let s = sides_of c.args.ground.now in
    let start = c.args.rows.now.list in
    let inv = c.exports.invariant in
    let grown = c.as_slice-in-exports.ensures ∙ exports_more s start c.exports.rows.list c.push_at.new.rows c.exports.k inv.rows c.in_ok-push_at.ensures.appended in
    let whole = ap (sum_by row_size) grown in
    let inside : c.exports.k + 1 ≤ length s.old.exports = omega (arith, c.exports-test.true, length-map c.exports-count.result.now plain_export, ap length c.exports-count.ensures) in
    rw (p.1, p.2) (on_limit_weaker c.in_err-take_rows-2.field-0.0 _ _ (λ l h. (h.0, upto_past s start c.args.rows.now.room.most (c.exports.k + 1) inside (omega (arith, h.1, whole, inv.counted.most_is)))) c.in_err-take_rows-2.ensures.past)

pub exports-preserved : goal.exports-preserved
exports-preserved c =
    let inv = c.exports.invariant in
    record {
      rows = exports_more (sides_of c.args.ground.now) c.args.rows.now.list c.exports.rows.list c.push_at.new.rows c.exports.k inv.rows c.in_ok-push_at.ensures.appended;
      counted = moved_taken c.exports.rows.room.most c.args.rows.now.room.most c.as_slice-in-exports.result.now c.push_at.new.rows c.take_rows-in-exports.new.room inv.counted.most_is c.as_slice-in-exports.ensures c.in_ok-take_rows-2.ensures.counted;
    }

pub returns-clause-appended : goal.returns-clause-appended
returns-clause-appended c = exports_all (sides_of c.args.ground.now) c.args.rows.now.list c.exports.rows.list c.exports-count.result.now c.exports.k c.exports.invariant.rows c.exports-count.ensures c.exports.auto.k-end c.exports-test.false
