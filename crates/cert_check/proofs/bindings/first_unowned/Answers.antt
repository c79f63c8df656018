use Rattle.std.proofs.Common.{refl, arith, ◌<◌, ◌^◌, get_or}
use Rattle.cert_check.specs.CertifiedPair.{case_of}
use Rattle.cert_check.proofs.Binds.{unowned_at, owned_more, owned_all}
use Rattle.cert_check.proofs.bindings.first_unowned.Goals as goal

pub returns-then-not-is_owned : goal.returns-then-not-is_owned
returns-then-not-is_owned c =
    let below : (get_or c.binds_of-lines.result.now c.loop-k.k (0, 0)).0 < 2 ^ 32 = omega arith in
    unowned_at (case_of c.args.ground.now) c.binds_of-lines.result.now c.binds_of-lines.ensures.value c.binds_of-lines.ensures.ascend c.loop-k.k c.loop-k-test.true below c.loop-k.invariant c.is_owned.result c.is_owned.ensures c.if-not-is_owned.true

pub loop-k-preserved : goal.loop-k-preserved
loop-k-preserved c = owned_more (case_of c.args.ground.now) c.binds_of-lines.result.now c.binds_of-lines.ensures.value c.binds_of-lines.ensures.ascend c.loop-k.k c.loop-k-test.true c.loop-k.invariant (c.if-not-is_owned.ensures.0 refl)

pub returns : goal.returns
returns c = owned_all (case_of c.args.ground.now) c.binds_of-lines.result.now c.binds_of-lines.ensures.value c.binds_of-lines.ensures.ascend c.loop-k.k c.loop-k-test.false c.loop-k.invariant
