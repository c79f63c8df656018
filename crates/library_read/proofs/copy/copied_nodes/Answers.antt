use Rattle.std.proofs.Common.{arith}
use Rattle.library_read.proofs.copy_lemmas.CopyLemmas.{copied_more}
use Rattle.library_read.proofs.copy.copied_nodes.Goals as goal

pub nodes-preserved : goal.nodes-preserved
nodes-preserved g c =
    copied_more c.nodes.nodes c.push.new.self c.args.graph.now c.nodes.number _ c.in_ok-copied_node.field-0 c.nodes.invariant (omega (arith, c.nodes-test.true, c.len-number-end.ensures)) c.of.ensures c.in_ok-copied_node.ensures.node c.in_ok-push.ensures.ok
