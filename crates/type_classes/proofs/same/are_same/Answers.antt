-- All nodes are the same.
use Rattle.std.proofs.Common.{sym, ◌∙◌, arith}
use Rattle.abi_types.specs.Graphs.{void_node}
use Rattle.type_classes.proofs.SameLemmas.{same_all}
use Rattle.type_classes.proofs.same.are_same.Goals as goal

pub returns : goal.returns
returns g c t =
    same_all void_node c.args.one.now c.args.other.now c.loop-node.node (omega (arith, c.len-node-end.ensures, c.loop-node-test.false)) (sym c.len.ensures ∙ c.if-len.false ∙ c.len-2.ensures) c.loop-node.invariant
