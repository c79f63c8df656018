use Rattle.std.proofs.Common.{◌+◌, arith}
use Rattle.std.proofs.lemmas.Result.{err_from_is_err_and}
use Rattle.cert_compose.specs.CertifiedChain.{chain_of}
use Rattle.cert_compose.specs.Limits.{seconds_looks, seconds_parts}
use Rattle.cert_compose.proofs.FittingLemmas.{step_passes, takes_both, takes_nothing}
use Rattle.cert_compose.proofs.fitting.take_middle.Goals as goal

pub returns-in_err-take-clause-past : goal.returns-in_err-take-clause-past
returns-in_err-take-clause-past c =
    let p = err_from_is_err_and c.from_residual.result c.from_residual.ensures.1 in
    let looks = seconds_looks (chain_of c.args.ground.now) c.args.middle in
    let parts = seconds_parts (chain_of c.args.ground.now) c.args.old c.args.middle in
    rw (p.1, p.2) (step_passes c.args.room.now c.args.room.now 0 1 (1 + looks) 0 0 parts c.in_err-take.field-0.0 (omega arith) (omega arith) (takes_nothing c.args.room.now 0 0) c.in_err-take.ensures.past)

pub returns-in_err-take_seconds-clause-past : goal.returns-in_err-take_seconds-clause-past
returns-in_err-take_seconds-clause-past c =
    let p = err_from_is_err_and c.from_residual-in_err-take_seconds.result c.from_residual-in_err-take_seconds.ensures.1 in
    let looks = seconds_looks (chain_of c.args.ground.now) c.args.middle in
    let parts = seconds_parts (chain_of c.args.ground.now) c.args.old c.args.middle in
    rw (p.1, p.2) (step_passes c.args.room.now c.take.new.self 1 looks (1 + looks) 0 parts parts c.in_err-take_seconds.field-0.0 (omega arith) (omega arith) c.in_ok-take.ensures.taken c.in_err-take_seconds.ensures.past)

pub returns-clause-taken : goal.returns-clause-taken
returns-clause-taken c =
    let looks = seconds_looks (chain_of c.args.ground.now) c.args.middle in
    let parts = seconds_parts (chain_of c.args.ground.now) c.args.old c.args.middle in
    takes_both c.args.room.now c.take.new.self c.take_seconds.new.room 1 looks (1 + looks) 0 parts parts (omega arith) (omega arith) c.in_ok-take.ensures.taken c.in_ok-take_seconds.ensures.taken
