use Rattle.psabi.specs.Calls.{calls_of}
use Rattle.library_read.specs.Libraries.{graph_of, uncalled_graph_of}
use Rattle.library_read.proofs.LibraryLemmas.{file-nodes, file-graph, uncalled-graph}
use Rattle.library_read.proofs.laws.nodes_stand_for_what_exports_reach.Goals as goal

pub returns-clause-nodes : goal.returns-clause-nodes
returns-clause-nodes c = file-nodes c.the_nodes_stand_for_the_reached.ensures

pub returns-clause-graph : goal.returns-clause-graph
returns-clause-graph c = file-graph c.the_nodes_are_a_graph.ensures c.a_section_is_in_order.ensures.ordered c.shapes_change_calls_alone.ensures

pub returns-clause-many : goal.returns-clause-many
unfolding graph_of
returns-clause-many c = λ f. (c.shapes_change_calls_alone.ensures (uncalled_graph_of f) (calls_of (uncalled_graph_of f))).many

pub returns-clause-same : goal.returns-clause-same
unfolding graph_of
returns-clause-same c = λ f. (c.shapes_change_calls_alone.ensures (uncalled_graph_of f) (calls_of (uncalled_graph_of f))).nodes_stay

pub returns-clause-calls : goal.returns-clause-calls
unfolding graph_of
returns-clause-calls c = λ f small none. c.given_calls_are_right.ensures (uncalled_graph_of f) (uncalled-graph c.the_nodes_are_a_graph.ensures c.a_section_is_in_order.ensures.ordered f small none)
