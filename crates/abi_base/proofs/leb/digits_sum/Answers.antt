use Rattle.std.proofs.Common.{arith}
use Rattle.abi_base.proofs.lemmas.Leb.{summed_none, summed_more}
use Rattle.abi_base.proofs.leb.digits_sum.Goals as goal

pub loop-left-init : goal.loop-left-init
loop-left-init c = summed_none c.args.digits.now

pub loop-left-preserved : goal.loop-left-preserved
loop-left-preserved c =
    summed_more c.args.digits.now c.loop-left.left c.loop-left.sum c.loop-left.scale c.from.result c.requires (omega arith) c.from.ensures c.loop-left.invariant
