-- The rank falls, and the greatest is that of the parts so far.
use Rattle.std.proofs.Common.{◌≡◌, take}
use Rattle.abi_types.specs.Graphs.{node_at}
use Rattle.psabi.specs.Alignment.{greatest, inner_align, align_of}
use Rattle.psabi.specs.Found.{IsRight}
use Rattle.psabi.proofs.alignment.+align_with.Given as goal

abbrev pub decreases-align_with : goal.decreases-align_with
decreases-align_with g l = (node_at l.graph.now (g.Ix.Index.number_of l.ix)).rank

abbrev pub invariant-loop-k : goal.invariant-loop-k
invariant-loop-k g l = record {
  greatest : l.greatest ≡ greatest (inner_align (align_of l.graph)) (take l.k l.view.parts);
  right : IsRight l.graph l.found;
}
