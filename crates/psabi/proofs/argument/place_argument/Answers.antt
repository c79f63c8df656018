-- No alignment is greater than the greatest explicit one.
use Rattle.std.proofs.Common.{arith}
use Rattle.psabi.proofs.AlignBounds.{align-bound}
use Rattle.psabi.proofs.argument.place_argument.Goals as goal

pub place-requires-clause-align : goal.place-requires-clause-align
place-requires-clause-align g c =
    let bound = align-bound c.args.graph.now c.known.ensures (g.Ix.Index.number_of c.args.to) in
    omega (arith, bound, c.align_with-align.ensures.align)
