use Rattle.std.proofs.Common.{below_more, refl}
use Rattle.cert_check.specs.Accepted.{KeepsRules}
use Rattle.cert_check.specs.CertifiedPair.{case_of}
use Rattle.cert_check.proofs.exports.first_broken.Goals as goal

pub loop-k-preserved : goal.loop-k-preserved
loop-k-preserved c = below_more (KeepsRules (case_of c.args.ground.now)) c.loop-k.k c.loop-k.invariant (c.if-not-keeps_rules.ensures.0 refl)
