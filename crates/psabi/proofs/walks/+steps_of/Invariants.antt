-- The rank falls.
use Rattle.abi_types.specs.Graphs.{node_at}
use Rattle.psabi.proofs.walks.+steps_of.Given as goal

abbrev pub decreases-steps_of : goal.decreases-steps_of
decreases-steps_of g l = (node_at l.graph.now (g.Ix.Index.number_of l.ix)).rank
