-- A break goes to what is kept where its key is new.
use Rattle.std.proofs.Common.{◌≡◌, ◌<◌, ◌∙◌, ◌+◌, ◌-◌, ◌^◌, ℕ, List, min, length, refl, sym, ap, arith}
use Rattle.std.specs.List.{sum_by}
use Rattle.std.proofs.lemmas.Result.{err_from_is_err_and}
use Rattle.abi_base.specs.Budgets.{BudgetState}
use Rattle.cert_check.specs.Compatible.{task_of}
use Rattle.pair_compare.specs.BoundPair.{sides_of}
use Rattle.pair_compare.specs.Limits.{break_size}
use Rattle.pair_compare.specs.reports.Keys.{PlainKey}
use Rattle.pair_compare.proofs.reports_lemmas.Rooms.{taken_none, taken_more, taken_past}
use Rattle.pair_compare.proofs.reports_lemmas.ToldLemmas.{readable_at, IsTelling-none, IsTelling-more, IsTelling-still}
use Rattle.pair_compare.proofs.reports.type_findings.told.Goals as goal
use Rattle.pair_compare.proofs.reports.type_findings.told.Goals.{then-is_new+in_ok-push, else-is_new}

pub loop-found-init : goal.loop-found-init
loop-found-init c = record {
  telling = rw c.new-told.ensures (IsTelling-none (task_of (sides_of c.args.ground.now)) c.args.explored.now.visits c.as_slice-breaks.result.now c.new-keys.result c.new-keys.ensures.empty);
  counted = taken_none _ _ _ _ refl (ap (λ (b : BudgetState). b.limit) c.room_for-room.ensures.fresh_is) refl (ap (λ (b : BudgetState). b.taken) c.room_for-room.ensures.fresh_is);
}

pub key_at-requires : goal.key_at-requires
key_at-requires c =
    let lt : c.loop-found.found-index < length c.args.explored.now.breaks = rw c.as_slice-breaks.ensures at c.loop-found-test.true in
    rw c.as_slice-breaks.ensures (readable_at (sides_of c.args.ground.now) c.args.explored.now.visits c.args.explored.now.breaks c.loop-found.found-index c.requires lt)

pub loop-found-preserved : goal.loop-found-preserved
loop-found-preserved c =
    let t = task_of (sides_of c.args.ground.now) in
    let vs = c.args.explored.now.visits in
    let breaks = c.as_slice-breaks.result.now in
    let lt = c.loop-found-test.true in
    let i = c.loop-found.found-index in
    let size = break_size (sides_of c.args.ground.now) vs in
    let costs = ap (λ (k : PlainKey). min (length k.3 + 128) (2 ^ 64 - 1)) (sym c.in_ok-key.ensures.key) ∙ ap (λ (t : List ℕ). min (length t + 128) (2 ^ 64 - 1)) (sym c.as_slice.ensures.value) ∙ sym c.bytes_with.ensures in
    let counted = taken_more c.room_for-room.result.most size breaks i c.bytes_with.result _ c.loop-found.room c.take.new.self c.loop-found.invariant.counted lt costs c.in_ok-take.ensures.within c.in_ok-take.ensures.taken in
    elim c.if-is_new.branch [
      | then-is_new+in_ok-push w ↦
          rw (w.told-is, w.in_ok-push.ensures.ok) (record {
            telling = IsTelling-more t vs breaks i c.loop-found.keys c.loop-found.told c.in_ok-key.key c.loop-found.invariant.telling lt c.in_ok-key.ensures.key
                c.insert.new.self c.in_ok-is_new.is_new c.in_ok-is_new.ensures.added w.if-is_new.true c.in_ok-is_new.ensures.updates.0;
            counted = counted;
          })
      | else-is_new w ↦
          rw w.told-is (record {
            telling = IsTelling-still t vs breaks i c.loop-found.keys c.loop-found.told c.in_ok-key.key c.loop-found.invariant.telling lt c.in_ok-key.ensures.key
                c.insert.new.self c.in_ok-is_new.is_new c.in_ok-is_new.ensures.added w.if-is_new.false c.in_ok-is_new.ensures.unchanged;
            counted = counted;
          })
    ]

pub returns-in_err-take-clause-past : goal.returns-in_err-take-clause-past
returns-in_err-take-clause-past c =
    let p = err_from_is_err_and c.from_residual-in_err-take.result c.from_residual-in_err-take.ensures.1 in
    let room = c.room_for-room.ensures in
    let breaks = c.as_slice-breaks.result.now in
    let size = break_size (sides_of c.args.ground.now) c.args.explored.now.visits in
    let costs = ap (λ (k : PlainKey). min (length k.3 + 128) (2 ^ 64 - 1)) (sym c.in_ok-key.ensures.key) ∙ ap (λ (t : List ℕ). min (length t + 128) (2 ^ 64 - 1)) (sym c.as_slice.ensures.value) ∙ sym c.bytes_with.ensures in
    let above = taken_past c.room_for-room.result.most size breaks c.loop-found.found-index c.bytes_with.result _ c.loop-found.room c.loop-found.invariant.counted c.loop-found-test.true costs c.in_err-take.ensures.past in
    let whole : sum_by size breaks ≡ sum_by size c.args.explored.now.breaks = ap (sum_by size) c.as_slice-breaks.ensures in
    rw (p.1, p.2, c.in_err-take.ensures.named, c.loop-found.invariant.counted.limit_is)
    (refl, record { old = room.old; new = room.new; old_is = room.old_is; new_is = room.new_is; more = omega (arith, above, whole, ap (λ (b : BudgetState). b.most) room.fresh_is) })
