use Rattle.type_graph.proofs.LimitLemmas.{made-graph}
use Rattle.type_graph.proofs.laws.made_nodes_are_a_graph.Goals as goal

pub returns : goal.returns
returns c = made-graph
