-- The edge at the link leads to the node, and its own link to the edge before.
use Rattle.std.proofs.Common.{◌≡◌, ◌-◌, ◌<◌, length, arith}
use Rattle.type_classes.proofs.EdgeLemmas.{read_edge, IsWalking-more, IsWalking-all}
use Rattle.type_classes.proofs.edges.Incoming.push_parts.Goals as goal

pub edges-preserved : goal.edges-preserved
edges-preserved c =
    let es = c.args.self.now.edges.items in
    let link_in = c.edges.invariant.inside in
    let some = c.edges-test.true in
    let inside : c.edges.link - 1 < length es = omega arith in
    let read = read_edge es (c.edges.link - 1) c.index-edge.result.now inside c.index-edge.ensures in
    (IsWalking-more c.args.self.now c.args.node c.edges.link c.args.into.now.items c.edges.into.items c.push.new.self.items c.index-edge.result.now c.requires.linked c.edges.invariant some read c.in_ok-push.ensures.items).0

pub returns-clause-appended : goal.returns-clause-appended
returns-clause-appended c =
    let none : c.edges.link ≡ 0 = omega arith in
    IsWalking-all c.args.self.now c.args.node c.edges.link c.args.into.now.items c.edges.into.items none c.edges.invariant
