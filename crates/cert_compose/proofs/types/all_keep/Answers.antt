use Rattle.std.proofs.Common.{sym}
use Rattle.cert_compose.specs.CertifiedChain.{chain_of}
use Rattle.cert_compose.specs.Losses.{keeps_new}
use Rattle.cert_compose.proofs.TestLemmas.{all_by}
use Rattle.cert_compose.proofs.types.all_keep.Goals as goal

pub returns : goal.returns
returns c = sym (all_by (keeps_new (chain_of c.args.ground.now) c.args.first c.args.middle) c.args.lines.now c.loop-line.line-index c.loop-line-test.false c.loop-line.invariant)
