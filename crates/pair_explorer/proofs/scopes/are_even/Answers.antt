-- Each node has the mark of the one that stands for its class.
use Rattle.std.proofs.Common.{arith, refl}
use Rattle.pair_explorer.proofs.Scoped.{AreEvenMarks-from_below}
use Rattle.pair_explorer.proofs.scopes.are_even.Goals as goal

pub returns : goal.returns
returns c = (
  (λ _. AreEvenMarks-from_below c.args.classes.now c.args.flags.now c.loop-i.i c.known.ensures c.loop-i.invariant (omega (arith, c.loop-i-test.false, c.requires)) (omega (arith, c.if-flags-nodes.false, c.requires))),
  λ _. refl,
)
