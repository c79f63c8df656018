use Rattle.cert_check.proofs.LookLemmas.{places_all}
use Rattle.cert_check.proofs.same_looks.same_params.Goals as goal

pub returns : goal.returns
returns c = places_all c.args.one.now c.args.other.now c.loop-k.k c.loop-k-test.false c.if-one-other.false c.loop-k.invariant
