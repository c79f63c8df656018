use Rattle.std.proofs.Common.{arith}
use Rattle.type_graph.proofs.SharingLemmas.{none-shared, all-shared}
use Rattle.type_graph.proofs.sharing.share_parts.Goals as goal

pub shared-init : goal.shared-init
shared-init g c = none-shared c.args.types.now.dwarf.now c.args.types.now.found.now c.args.nodes.items c.requires.nodes

pub returns-clause-nodes : goal.returns-clause-nodes
returns-clause-nodes g c = all-shared c.args.types.now.dwarf.now c.args.types.now.found.now c.shared.number c.shared.nodes.items c.shared.invariant (omega (arith, c.shared-test.false, c.len-number-end.ensures))
