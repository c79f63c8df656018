use Rattle.std.proofs.Common.{below_more, refl}
use Rattle.cert_compose.specs.Between.{KeepsBinding}
use Rattle.cert_compose.specs.CertifiedChain.{chain_of}
use Rattle.cert_compose.proofs.links.first_unbound.Goals as goal

pub loop-k-preserved : goal.loop-k-preserved
loop-k-preserved c = below_more (KeepsBinding (chain_of c.args.ground.now)) c.loop-k.k c.loop-k.invariant (c.if-not-keeps_binding.ensures.0 refl)
