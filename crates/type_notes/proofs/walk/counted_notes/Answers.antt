-- The classes are those of the graphs.
use Rattle.std.proofs.Common.{◌∙◌}
use Rattle.type_notes.proofs.walk.counted_notes.Goals as goal

pub notes_of_classes-requires-clause-old_nodes : goal.notes_of_classes-requires-clause-old_nodes
notes_of_classes-requires-clause-old_nodes g c = c.in_ok-old_classes.ensures.graph ∙ c.graph-old_graph.ensures

pub notes_of_classes-requires-clause-new_nodes : goal.notes_of_classes-requires-clause-new_nodes
notes_of_classes-requires-clause-new_nodes g c = c.in_ok-new_classes.ensures.graph ∙ c.graph-new_graph.ensures
