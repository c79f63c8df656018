-- The parts that name one node more.
use Rattle.std.proofs.Common.{◌≡◌, length, get_or, arith}
use Rattle.type_classes.proofs.EdgeLemmas.{contains_at, IsJoining-more, IsJoining-all}
use Rattle.type_classes.proofs.edges.join.Goals as goal

pub push_parts-requires-clause-inside : goal.push_parts-requires-clause-inside
push_parts-requires-clause-inside c = c.requires.inside (get_or c.args.nodes.now c.nodes.i 0) (contains_at c.args.nodes.now c.nodes.i c.nodes-test.true)

pub nodes-preserved : goal.nodes-preserved
nodes-preserved c = IsJoining-more c.args.incoming.now c.args.nodes.now c.nodes.i c.nodes.into.items c.push_parts.new.into.items c.nodes.invariant c.in_ok-push_parts.ensures.appended

pub returns-clause-joined : goal.returns-clause-joined
returns-clause-joined c =
    let all : c.nodes.i ≡ length c.args.nodes.now = omega arith in
    IsJoining-all c.args.incoming.now c.args.nodes.now c.nodes.i c.nodes.into.items all c.nodes.invariant
