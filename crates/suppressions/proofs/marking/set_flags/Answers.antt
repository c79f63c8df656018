use Rattle.std.proofs.Common.{refl, arith}
use Rattle.suppressions.proofs.FlagLemmas.{joined-start, joined-more, joined-end}
use Rattle.suppressions.proofs.marking.set_flags.Goals as goal

pub loop-i-init : goal.loop-i-init
loop-i-init c = joined-start c.args.flags.now c.args.other.now

pub loop-i-preserved : goal.loop-i-preserved
loop-i-preserved c =
    joined-more c.args.flags.now c.args.other.now c.loop-i.flags _ c.loop-i.i c.one_of.result c.requires (omega (arith, c.loop-i-test.true)) c.loop-i.invariant c.one_of.ensures refl

pub returns : goal.returns
returns c = joined-end c.args.flags.now c.args.other.now c.loop-i.flags c.loop-i.i c.requires (omega (arith, c.loop-i-test.false)) c.loop-i.invariant
