-- The parts that name the nodes so far are joined.
use Rattle.type_classes.proofs.EdgeLemmas.{IsJoining}
use Rattle.type_classes.proofs.edges.join.Given as goal

abbrev pub invariant-nodes : goal.invariant-nodes
invariant-nodes l = IsJoining l.incoming l.nodes l.i l.into.items
