use Rattle.type_graph.proofs.ViewLemmas.{are-nodes}
use Rattle.type_graph.proofs.laws.made_nodes_stand_for_entries.Goals as goal

pub returns : goal.returns
returns c = are-nodes
