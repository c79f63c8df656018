-- Row by row.
use Rattle.std.proofs.Common.{◌≡◌, ◌∙◌, ◌++◌, ◌∷◌, [], ◌+◌, ℕ, take, inl, inr, refl, sym, ap, subst, arith}
use Rattle.std.specs.List.{sum_by}
use Rattle.std.proofs.lemmas.Result.{err_from_is_err_and}
use Rattle.abi_base.proofs.lemmas.Outcomes.{on_limit_weaker}
use Rattle.pair_compare.specs.BoundPair.{sides_of}
use Rattle.pair_compare.proofs.reports_lemmas.ToldLemmas.{kept_readable, rows_all, rows_more, rows_with}
use Rattle.pair_compare.specs.Limits.{row_size}
use Rattle.pair_compare.specs.reports.Rooms.{IsTaken}
use Rattle.pair_compare.proofs.reports_lemmas.Rooms.{told_past}
use Rattle.pair_compare.proofs.reports.type_findings.push_type_rows.Goals as goal

pub row_at-requires-clause-readable : goal.row_at-requires-clause-readable
row_at-requires-clause-readable c =
    kept_readable c.rules_have_places_of_their_own.ensures (sides_of c.args.ground.now) c.args.explored.now.visits c.args.explored.now.breaks c.as_slice-breaks.result.now c.loop-found.found-index c.requires.readable
    (c.as_slice-breaks.ensures ∙ c.in_ok-told.ensures.told) c.loop-found-test.true

pub returns-clause-appended : goal.returns-clause-appended
returns-clause-appended c =
    rows_all (sides_of c.args.ground.now) c.args.explored.now.visits c.args.rows.now.list c.loop-found.rows.list c.as_slice-breaks.result.now c.args.explored.now.breaks c.loop-found.found-index c.loop-found.invariant.rows
    (c.as_slice-breaks.ensures ∙ c.in_ok-told.ensures.told) c.loop-found-test.false

pub push-requires : goal.push-requires
push-requires c = let counted = c.loop-found.invariant.counted in subst (λ (m : ℕ). IsTaken m row_size c.loop-found.rows.list c.loop-found.rows.room) (sym counted.most_is) counted

pub loop-found-preserved : goal.loop-found-preserved
loop-found-preserved c =
    let inv = c.loop-found.invariant in
    record {
      rows = rows_more (sides_of c.args.ground.now) c.args.explored.now.visits c.args.rows.now.list c.loop-found.rows.list c.push.new.self.list c.as_slice-breaks.result.now c.loop-found.found-index c.in_ok-row.row inv.rows c.loop-found-test.true c.in_ok-row.ensures.row c.in_ok-push.ensures.list;
      counted = subst (λ (m : ℕ). IsTaken m row_size c.push.new.self.list c.push.new.self.room) inv.counted.most_is c.in_ok-push.ensures.counted;
    }

pub returns-in_err-told-clause-past : goal.returns-in_err-told-clause-past
returns-in_err-told-clause-past c =
    let p = err_from_is_err_and c.from_residual.result c.from_residual.ensures.1 in
    rw (p.1, p.2) (on_limit_weaker c.in_err-told.field-0.0 _ _ (λ l h. inl h) c.in_err-told.ensures.past)

pub returns-in_err-push-clause-past : goal.returns-in_err-push-clause-past
returns-in_err-push-clause-past c =
    let p = err_from_is_err_and c.from_residual-in_err-push.result c.from_residual-in_err-push.ensures.1 in
    let s = sides_of c.args.ground.now in
    let vs = c.args.explored.now.visits in
    let inv = c.loop-found.invariant in
    let kept = c.as_slice-breaks.result.now in
    let i = c.loop-found.found-index in
    let rows = c.loop-found.rows.list ++ c.in_ok-row.row ∷ [] in
    let grown : rows ≡ rows_with s vs c.args.rows.now.list (take (i + 1) kept) = rows_more s vs c.args.rows.now.list c.loop-found.rows.list rows kept i c.in_ok-row.row inv.rows c.loop-found-test.true c.in_ok-row.ensures.row refl in
    rw (p.1, p.2) (on_limit_weaker c.in_err-push.field-0.0 _ _ (λ l h. inr (
      h.0,
      told_past s vs c.args.rows.now.list kept c.args.explored.now.breaks c.args.rows.now.room.most (i + 1) (c.as_slice-breaks.ensures ∙ c.in_ok-told.ensures.told)
          (omega (arith, h.1, inv.counted.most_is, ap (sum_by row_size) grown)),
    )) c.in_err-push.ensures.past)
