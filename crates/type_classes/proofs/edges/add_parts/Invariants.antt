-- The parts before this one are added.
use Rattle.type_classes.proofs.EdgeLemmas.{IsAdding}
use Rattle.type_classes.proofs.edges.add_parts.Given as goal

abbrev pub invariant-parts : goal.invariant-parts
invariant-parts g l = IsAdding l.graph l.fn.incoming l.incoming l.node l.k
