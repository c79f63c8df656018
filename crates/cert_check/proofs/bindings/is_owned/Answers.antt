use Rattle.std.proofs.Common.{rules}
use Rattle.std.proofs.lemmas.List.Sorted.{answers_always}
use Rattle.cert_check.specs.CertifiedPair.{case_of}
use Rattle.cert_check.proofs.Binds.{symbol_in, exports_rise, owned_found, owned_missed}
use Rattle.cert_check.proofs.bindings.is_owned.Goals as goal

pub returns-in-Ok : goal.returns-in-Ok
returns-in-Ok c =
    owned_found (case_of c.args.ground.now) c.exports.result.now c.exports.ensures c.known.ensures.numbered c.args.symbol c.in-Ok.k c.in-Ok.ensures.bound (c.in-Ok.ensures.position symbol_in (answers_always _ _ _ (λ f a r q k. search rules)))
    c.is_compared.result c.is_compared.ensures

pub returns-in-Err : goal.returns-in-Err
returns-in-Err c =
    owned_missed (case_of c.args.ground.now) c.exports.result.now c.exports.ensures c.known.ensures.numbered c.args.symbol c.in-Err.field-0
    (c.in-Err.ensures.position symbol_in (answers_always _ _ _ (λ f a r q k. search rules)) (exports_rise (case_of c.args.ground.now) c.exports.result.now c.exports.ensures c.known.ensures.numbered c.args.symbol))
