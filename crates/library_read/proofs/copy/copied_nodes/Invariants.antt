use Rattle.std.proofs.Common.{◌≡◌, take}
use Rattle.library_read.proofs.copy.copied_nodes.Given as goal

abbrev pub invariant-nodes : goal.invariant-nodes
invariant-nodes g l = l.nodes ≡ take l.number l.graph
