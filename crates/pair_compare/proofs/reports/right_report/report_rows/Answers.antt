-- The rows on sonames and exports, and those on types.
use Rattle.std.proofs.Common.{◌≡◌, ◌∙◌, ◌++◌, ℕ, List, inl, inr, sym, ap, subst, arith}
use Rattle.std.specs.List.{sum_by}
use Rattle.std.proofs.lemmas.Result.{err_from_is_err_and}
use Rattle.abi_base.proofs.lemmas.Outcomes.{on_limit_weaker}
use Rattle.report.specs.declared.row.Row.{Row}
use Rattle.pair_compare.specs.BoundPair.{sides_of}
use Rattle.pair_compare.specs.Limits.{row_size}
use Rattle.pair_compare.specs.reports.ExportRows.{export_rows}
use Rattle.pair_compare.specs.reports.Rooms.{IsTaken}
use Rattle.pair_compare.specs.reports.TypeFindings.{type_rows}
use Rattle.pair_compare.proofs.reports_lemmas.Rooms.{room_taken, rows_pass, details_pass, front_less}
use Rattle.pair_compare.proofs.reports.right_report.report_rows.Goals as goal

pub push_type_rows-requires-clause-readable : goal.push_type_rows-requires-clause-readable
push_type_rows-requires-clause-readable c = c.rows_can_be_read.ensures (sides_of c.args.pair.now) c.args.explored.now.visits c.args.explored.now.breaks c.requires.explored

pub push_export_rows-requires-clause-counted : goal.push_export_rows-requires-clause-counted
push_export_rows-requires-clause-counted c = room_taken (sides_of c.args.pair.now) c.new-rows.result.list c.new-rows.result.room c.new-rows.ensures.list c.new-rows.ensures.room

pub returns-in_err-push_export_rows-clause-past : goal.returns-in_err-push_export_rows-clause-past
returns-in_err-push_export_rows-clause-past c =
    let p = err_from_is_err_and c.from_residual.result c.from_residual.ensures.1 in
    let s = sides_of c.args.pair.now in
    let vs = c.args.explored.now.visits in
    let broken = c.args.explored.now.breaks in
    let none = ap (λ (rows : List Row). sum_by row_size (rows ++ export_rows s)) c.new-rows.ensures.list in
    rw (p.1, p.2) (on_limit_weaker c.in_err-push_export_rows.field-0.0 _ _ (λ l h. (
      h.0,
      rows_pass s vs broken c.new-rows.result.room c.new-rows.ensures.room (c.told_rows_are_right.ensures s vs broken c.requires.explored)
          (omega (arith, h.1, none, front_less (export_rows s) (type_rows s vs broken))),
    )) c.in_err-push_export_rows.ensures.past)

pub returns-in_err-push_type_rows-clause-past : goal.returns-in_err-push_type_rows-clause-past
returns-in_err-push_type_rows-clause-past c =
    let p = err_from_is_err_and c.from_residual-in_err-push_type_rows.result c.from_residual-in_err-push_type_rows.ensures.1 in
    let s = sides_of c.args.pair.now in
    let vs = c.args.explored.now.visits in
    let broken = c.args.explored.now.breaks in
    let front : c.push_export_rows.new.rows.list ≡ export_rows s = c.in_ok-push_export_rows.ensures.appended ∙ ap (λ (rows : List Row). rows ++ export_rows s) c.new-rows.ensures.list in
    let whole = ap (λ (rows : List Row). sum_by row_size (rows ++ type_rows s vs broken)) front in
    rw (p.1, p.2) (on_limit_weaker c.in_err-push_type_rows.field-0.0 _ _ (λ l h. elim h [
      | inl long ↦ (long.0, details_pass s vs broken c.requires.explored long.1)
      | inr above ↦ (
        above.0,
        rows_pass s vs broken c.new-rows.result.room c.new-rows.ensures.room (c.told_rows_are_right.ensures s vs broken c.requires.explored)
            (omega (arith, above.1, whole, c.in_ok-push_export_rows.ensures.counted.most_is)),
      )
    ]) c.in_err-push_type_rows.ensures.past)

pub push_type_rows-requires-clause-counted : goal.push_type_rows-requires-clause-counted
push_type_rows-requires-clause-counted c =
    let counted = c.in_ok-push_export_rows.ensures.counted in
    subst (λ (m : ℕ). IsTaken m row_size c.push_export_rows.new.rows.list c.push_export_rows.new.rows.room) (sym counted.most_is) counted

pub returns-clause-none : goal.returns-clause-none
returns-clause-none c =
    let s = sides_of c.args.pair.now in
    let vs = c.args.explored.now.visits in
    let broken = c.args.explored.now.breaks in
    let front : c.push_export_rows.new.rows.list ≡ export_rows s = c.in_ok-push_export_rows.ensures.appended ∙ ap (λ (rows : List Row). rows ++ export_rows s) c.new-rows.ensures.list in
    let whole : c.push_type_rows.new.rows.list ≡ export_rows s ++ type_rows s vs broken = c.in_ok-push_type_rows.ensures.appended ∙ ap (λ (rows : List Row). rows ++ type_rows s vs broken) front in
    rw whole (c.no_row_is_compatible.ensures s vs broken c.requires.explored)
