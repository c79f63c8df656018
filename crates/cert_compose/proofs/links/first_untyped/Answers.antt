use Rattle.std.proofs.Common.{below_more, refl, arith}
use Rattle.cert_compose.specs.Between.{KeepsTyped}
use Rattle.cert_compose.specs.CertifiedChain.{chain_of}
use Rattle.cert_compose.proofs.links.first_untyped.Goals as goal

pub loop-k-preserved : goal.loop-k-preserved
loop-k-preserved c = below_more (KeepsTyped (chain_of c.args.ground.now)) c.loop-k.k c.loop-k.invariant (c.if-not-keeps_typed.ensures.0 refl)

pub returns : goal.returns
returns c = λ k below. c.loop-k.invariant k (omega (arith, below, c.loop-k-test.false, c.export_count-k-end.ensures))
