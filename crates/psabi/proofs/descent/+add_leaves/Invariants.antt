-- The rank falls, and what stands inside so far is merged.
use Rattle.abi_types.specs.Graphs.{node_at, view_at}
use Rattle.abi_types.specs.Leaves.{leaves_of_all, leaves_of}
use Rattle.psabi.specs.Merging.{MergesLeaves}
use Rattle.psabi.proofs.descent.+add_leaves.Given as goal

abbrev pub decreases-add_leaves : goal.decreases-add_leaves
decreases-add_leaves g l = (node_at l.graph.now (g.Ix.Index.number_of l.ix)).rank

abbrev pub invariant-loop-n : goal.invariant-loop-n
invariant-loop-n g l = MergesLeaves (leaves_of_all l.graph (leaves_of l.graph) (view_at l.graph (g.Ix.Index.number_of l.ix)) l.bit l.n) l.fn.eightbytes l.eightbytes
