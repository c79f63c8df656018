-- Their parts name alike nodes.
use Rattle.type_classes.proofs.LookLemmas.{alike_look}
use Rattle.type_classes.proofs.laws.alike_nodes_look_the_same.Goals as goal

pub returns : goal.returns
returns c = alike_look
