-- The parts of the nodes before this one are added.
use Rattle.type_classes.specs.Edges.{AreIncoming}
use Rattle.type_classes.proofs.edges.incoming_of.Given as goal

abbrev pub invariant-nodes : goal.invariant-nodes
invariant-nodes g l = AreIncoming l.graph l.node l.incoming
