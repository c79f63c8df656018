-- The nodes before the number are whole.
use Rattle.type_graph.specs.Sharing.{AreShared}
use Rattle.type_graph.proofs.sharing.share_parts.Given as goal

abbrev pub invariant-shared : goal.invariant-shared
invariant-shared g l = AreShared l.types.dwarf.now l.types.found.now l.number l.nodes.items
