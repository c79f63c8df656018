use Rattle.std.proofs.Common.{sym, subst, arith}
use Rattle.dwarf_tree.proofs.Below.{AreBelow, below_is, below_ends, below_more}
use Rattle.dwarf_tree.proofs.ends.end_in.Goals as goal

pub returns-then-end-ends-clause-end : goal.returns-then-end-ends-clause-end
returns-then-end-ends-clause-end c =
    below_ends c.args.growing.now.tree c.args.e c.below.end c.below.invariant (λ inside. absurd (omega arith))

pub returns-then-depth-clause-end : goal.returns-then-depth-clause-end
returns-then-depth-clause-end c =
    below_ends c.args.growing.now.tree c.args.e c.below.end c.below.invariant (λ inside. omega arith)

pub below-preserved : goal.below-preserved
below-preserved c =
    below_more c.args.growing.now.tree c.args.e c.below.end _ c.below.invariant (omega arith) (omega arith)
    (subst (λ end. AreBelow c.args.growing.now.tree c.below.end end) (sym (c.requires.known c.below.end (omega (arith, c.below.invariant.after)) (omega arith)))
    (below_is c.args.growing.now.tree c.below.end (omega arith)))
