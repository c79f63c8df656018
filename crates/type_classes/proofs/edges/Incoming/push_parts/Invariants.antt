-- The parts by the edges from the link on are there.
use Rattle.type_classes.proofs.EdgeLemmas.{IsWalking}
use Rattle.type_classes.proofs.edges.Incoming.push_parts.Given as goal

abbrev pub invariant-edges : goal.invariant-edges
invariant-edges l = IsWalking l.self l.node l.fn.into.items l.into.items l.link

abbrev pub decreases-edges : goal.decreases-edges
decreases-edges l = l.link
