use Rattle.type_graph.proofs.NodeLemmas.{found-inside}
use Rattle.type_graph.proofs.nodes.node.Goals as goal

pub offset_of-entry-requires : goal.offset_of-entry-requires
offset_of-entry-requires g c = found-inside c.args.types.now.dwarf.now.tree c.args.types.now.found.now c.args.ty c.requires.closed c.requires.there

pub labels_of-requires-clause-inside : goal.labels_of-requires-clause-inside
labels_of-requires-clause-inside g c = found-inside c.args.types.now.dwarf.now.tree c.args.types.now.found.now c.args.ty c.requires.closed c.requires.there
