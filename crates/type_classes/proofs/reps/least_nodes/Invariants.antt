-- The entries of the nodes so far are not before those of the nodes of their classes.
use Rattle.type_classes.specs.Blocks.{class_in, count_of}
use Rattle.type_classes.proofs.RepLemmas.{AreLeast}
use Rattle.type_classes.proofs.reps.least_nodes.Given as goal

abbrev pub invariant-nodes : goal.invariant-nodes
invariant-nodes g l = AreLeast l.graph (count_of l.blocks) (class_in l.blocks) l.node l.list.items
