-- Line by line.
use Rattle.std.proofs.Common.{sym, ◌∙◌}
use Rattle.std.specs.List.{sum_by}
use Rattle.std.proofs.lemmas.Result.{err_from_is_err_and}
use Rattle.abi_base.specs.Outcome.{OnLimit}
use Rattle.cert_compose.specs.CertifiedChain.{chain_of}
use Rattle.cert_compose.specs.Limits.{second_looks, second_parts}
use Rattle.cert_compose.specs.Spending.{RoomPasses, TakesAtMost}
use Rattle.cert_compose.proofs.FittingLemmas.{counts_where, items_all, items_more, items_pass, takes_nothing}
use Rattle.cert_compose.proofs.fitting.take_seconds.Goals as goal

pub loop-k-init : goal.loop-k-init
loop-k-init c = takes_nothing c.args.room.now _ _

pub loop-k-preserved : goal.loop-k-preserved
loop-k-preserved c =
    items_more (second_looks c.args.middle) (second_parts (chain_of c.args.ground.now) c.args.old c.args.middle) c.pairs_of-seconds.result.now c.loop-k.k c.args.room.now c.loop-k.room c.take.new.self _ 1 c.weight_of.result
    c.loop-k-test.true (counts_where _ c.args.middle 1 c.if-line-middle.false) (counts_where _ c.args.middle _ c.if-line-middle.false ∙ sym c.weight_of.ensures) c.loop-k.invariant c.in_ok-take.ensures.taken

pub returns-in_err-take-clause-past : goal.returns-in_err-take-clause-past
returns-in_err-take-clause-past c =
    let p = err_from_is_err_and c.from_residual.result c.from_residual.ensures.1 in
    let looks = second_looks c.args.middle in
    let parts = second_parts (chain_of c.args.ground.now) c.args.old c.args.middle in
    let passes : OnLimit c.in_err-take.field-0.0 (RoomPasses c.args.room.now (sum_by looks c.pairs_of-seconds.result.now) (sum_by parts c.pairs_of-seconds.result.now)) =
    items_pass looks parts c.pairs_of-seconds.result.now c.loop-k.k c.args.room.now c.loop-k.room _ 1 c.weight_of.result c.in_err-take.field-0.0
    c.loop-k-test.true (counts_where _ c.args.middle 1 c.if-line-middle.false) (counts_where _ c.args.middle _ c.if-line-middle.false ∙ sym c.weight_of.ensures) c.loop-k.invariant c.in_err-take.ensures.past in
    rw (p.1, p.2) (rw c.pairs_of-seconds.ensures.value at passes)

pub returns-then-line-middle-clause-taken : goal.returns-then-line-middle-clause-taken
returns-then-line-middle-clause-taken c =
    let looks = second_looks c.args.middle in
    let parts = second_parts (chain_of c.args.ground.now) c.args.old c.args.middle in
    let taken : TakesAtMost c.args.room.now c.loop-k.room (sum_by looks c.pairs_of-seconds.result.now) (sum_by parts c.pairs_of-seconds.result.now) =
    items_all looks parts c.pairs_of-seconds.result.now c.loop-k.k c.args.room.now c.loop-k.room c.loop-k.invariant in
    rw c.pairs_of-seconds.ensures.value at taken

pub returns-clause-taken : goal.returns-clause-taken
returns-clause-taken c =
    let looks = second_looks c.args.middle in
    let parts = second_parts (chain_of c.args.ground.now) c.args.old c.args.middle in
    let taken : TakesAtMost c.args.room.now c.loop-k.room (sum_by looks c.pairs_of-seconds.result.now) (sum_by parts c.pairs_of-seconds.result.now) =
    items_all looks parts c.pairs_of-seconds.result.now c.loop-k.k c.args.room.now c.loop-k.room c.loop-k.invariant in
    rw c.pairs_of-seconds.ensures.value at taken
