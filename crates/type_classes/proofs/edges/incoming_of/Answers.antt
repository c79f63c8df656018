-- All nodes are in.
use Rattle.std.proofs.Common.{◌≡◌, length, arith}
use Rattle.type_classes.proofs.EdgeLemmas.{AreIncoming-all}
use Rattle.type_classes.proofs.edges.incoming_of.Goals as goal

pub returns-clause-incoming : goal.returns-clause-incoming
returns-clause-incoming g c =
    let all : c.nodes.node ≡ length c.args.graph.now = omega arith in
    AreIncoming-all c.args.graph.now c.nodes.node (length c.args.graph.now) c.nodes.incoming all c.nodes.invariant
