use Rattle.std.proofs.Common.{arith, sym, map, List}
use Rattle.type_reach.specs.declared.facts.Facts.{Facts}
use Rattle.type_reach.specs.Facts.{total, room_of}
use Rattle.type_reach.proofs.LoopLemmas.{drop-down, drop-none}
use Rattle.type_reach.proofs.facts.all_rooms.Goals as goal

pub down-init : goal.down-init
unfolding total
down-init c = record { is = sym (drop-none (λ (xs : List Facts). total (map room_of xs)) c.args.params.now); place = omega arith }

pub down-preserved : goal.down-preserved
unfolding total
down-preserved c =
    let e = drop-down (λ (xs : List Facts). total (map room_of xs)) c.args.params.now c.down.k c.index-params-k.result c.down-test.true c.down.invariant.place c.index-params-k.is in
    record { is = omega (arith, e, c.down.invariant.is, c.saturating_add-all.ensures, c.saturating_add.ensures); place = omega (arith, c.down.invariant.place) }
