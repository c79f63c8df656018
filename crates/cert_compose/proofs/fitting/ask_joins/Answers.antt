-- Line by line.
use Rattle.std.proofs.Common.{refl, sym, subst}
use Rattle.std.specs.List.{sum_by}
use Rattle.std.proofs.lemmas.Result.{err_from_is_err_and}
use Rattle.abi_base.specs.Outcome.{OnLimit}
use Rattle.cert_compose.specs.CertifiedChain.{chain_of}
use Rattle.cert_compose.specs.Limits.{line_looks, line_parts}
use Rattle.cert_compose.specs.Spending.{RoomPasses, TakesAtMost, room_of}
use Rattle.cert_compose.specs.declared.fitting.Room.{Room}
use Rattle.cert_compose.proofs.FittingLemmas.{items_more, items_pass, joins_pass, takes_nothing}
use Rattle.cert_compose.proofs.fitting.ask_joins.Goals as goal

pub loop-line-init : goal.loop-line-init
loop-line-init c =
    let ch = chain_of c.args.ground.now in
    subst (λ (r : Room). TakesAtMost (room_of ch) r 0 0) (sym c.beside-room.ensures) (takes_nothing (room_of ch) 0 0)

pub loop-line-preserved : goal.loop-line-preserved
loop-line-preserved c =
    let ch = chain_of c.args.ground.now in
    items_more (line_looks ch c.args.middles.now) (line_parts ch c.args.middles.now) c.pairs_of-lines.result.now c.loop-line.line-index (room_of ch) c.loop-line.room c.take_line.new.room _ _ _
    c.loop-line-test.true refl refl c.loop-line.invariant c.in_ok-take_line.ensures.taken

pub returns-in_err-take_line : goal.returns-in_err-take_line
returns-in_err-take_line c =
    let p = err_from_is_err_and c.from_residual.result c.from_residual.ensures.1 in
    let ch = chain_of c.args.ground.now in
    let looks = line_looks ch c.args.middles.now in
    let parts = line_parts ch c.args.middles.now in
    let passes : OnLimit c.in_err-take_line.field-0.0 (RoomPasses (room_of ch) (sum_by looks c.pairs_of-lines.result.now) (sum_by parts c.pairs_of-lines.result.now)) =
    items_pass looks parts c.pairs_of-lines.result.now c.loop-line.line-index (room_of ch) c.loop-line.room _ _ _ c.in_err-take_line.field-0.0
    c.loop-line-test.true refl refl c.loop-line.invariant c.in_err-take_line.ensures.past in
    let joined = joins_pass ch c.args.middles.now c.in_err-take_line.field-0.0 (rw c.pairs_of-lines.ensures.value at passes) in
    record { past = rw (p.1, p.2) joined }
