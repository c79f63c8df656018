-- Middle type by middle type.
use Rattle.std.proofs.Common.{◌+◌, sym, ◌∙◌}
use Rattle.std.proofs.lemmas.Result.{err_from_is_err_and}
use Rattle.cert_compose.specs.CertifiedChain.{chain_of}
use Rattle.cert_compose.specs.Limits.{middle_looks, middle_parts, seconds_looks, seconds_parts}
use Rattle.cert_compose.proofs.FittingLemmas.{counts_where, items_all, items_more, items_pass, takes_nothing}
use Rattle.cert_compose.proofs.fitting.take_line.Goals as goal

pub loop-k-init : goal.loop-k-init
loop-k-init c = takes_nothing c.args.room.now _ _

pub loop-k-preserved : goal.loop-k-preserved
loop-k-preserved c =
    let ch = chain_of c.args.ground.now in
    items_more (middle_looks ch c.args.line) (middle_parts ch c.args.line) c.args.middles.now c.loop-k.k c.args.room.now c.loop-k.room c.take_middle.new.room _ _ _
    c.loop-k-test.true (counts_where _ c.args.line.1 _ c.if-middle-line.false) (counts_where _ c.args.line.1 _ c.if-middle-line.false) c.loop-k.invariant c.in_ok-take_middle.ensures.taken

pub returns-in_err-take_middle-clause-past : goal.returns-in_err-take_middle-clause-past
returns-in_err-take_middle-clause-past c =
    let p = err_from_is_err_and c.from_residual.result c.from_residual.ensures.1 in
    let ch = chain_of c.args.ground.now in
    rw (p.1, p.2) (items_pass (middle_looks ch c.args.line) (middle_parts ch c.args.line) c.args.middles.now c.loop-k.k c.args.room.now c.loop-k.room _ _ _ c.in_err-take_middle.field-0.0
    c.loop-k-test.true (counts_where _ c.args.line.1 _ c.if-middle-line.false) (counts_where _ c.args.line.1 _ c.if-middle-line.false) c.loop-k.invariant c.in_err-take_middle.ensures.past)

pub returns-then-middle-line-clause-taken : goal.returns-then-middle-line-clause-taken
returns-then-middle-line-clause-taken c =
    let ch = chain_of c.args.ground.now in
    items_all (middle_looks ch c.args.line) (middle_parts ch c.args.line) c.args.middles.now c.loop-k.k c.args.room.now c.loop-k.room c.loop-k.invariant

pub returns-clause-taken : goal.returns-clause-taken
returns-clause-taken c =
    let ch = chain_of c.args.ground.now in
    items_all (middle_looks ch c.args.line) (middle_parts ch c.args.line) c.args.middles.now c.loop-k.k c.args.room.now c.loop-k.room c.loop-k.invariant
