use Rattle.std.proofs.lemmas.Result.{err_from_is_err_and}
use Rattle.cert_text.proofs.ReadHead.{fails_at_one, fails_at_two, fails_at_three, fails_at_four, whole}
use Rattle.cert_text.proofs.head.read_head.Goals as goal

pub returns-in_err-second : goal.returns-in_err-second
returns-in_err-second c =
    let p = err_from_is_err_and c.from_residual.result c.from_residual.ensures.1 in
    rw (p.1, p.2) (fails_at_one c.args.version c.args.bytes.now _ c.in_err-second.ensures)

pub returns-in_err-old : goal.returns-in_err-old
returns-in_err-old c =
    let p = err_from_is_err_and c.from_residual-in_err-old.result c.from_residual-in_err-old.ensures.1 in
    rw (p.1, p.2) (fails_at_two c.args.version c.args.bytes.now _ _ c.in_ok-second.ensures c.in_err-old.ensures)

pub returns-in_err-new : goal.returns-in_err-new
returns-in_err-new c =
    let p = err_from_is_err_and c.from_residual-in_err-new.result c.from_residual-in_err-new.ensures.1 in
    rw (p.1, p.2) (fails_at_three c.args.version c.args.bytes.now _ _ _ _ c.in_ok-second.ensures c.in_ok-old.ensures c.in_err-new.ensures)

pub returns-in_err-rules : goal.returns-in_err-rules
returns-in_err-rules c =
    let p = err_from_is_err_and c.from_residual-in_err-rules.result c.from_residual-in_err-rules.ensures.1 in
    rw (p.1, p.2) (fails_at_four c.args.version c.args.bytes.now _ _ _ _ _ _ c.in_ok-second.ensures c.in_ok-old.ensures c.in_ok-new.ensures c.in_err-rules.ensures)

pub read_digest-requires-2 : goal.read_digest-requires-2
read_digest-requires-2 c = (c.in_ok-old.ensures.passes c.args.version).stands.inside

pub read_digest-requires-3 : goal.read_digest-requires-3
read_digest-requires-3 c = (c.in_ok-new.ensures.passes c.args.version).stands.inside

pub returns : goal.returns
returns c = whole c.args.version c.args.bytes.now _ _ _ _ _ _ _ c.in_ok-second.ensures c.in_ok-old.ensures c.in_ok-new.ensures c.in_ok-rules.ensures
