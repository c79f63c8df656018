use Rattle.abi_types.proofs.EntryLemmas.{found_node, no_node}
use Rattle.abi_types.proofs.graph.Graph.find.Goals as goal

pub returns-in-Some-clause-node : goal.returns-in-Some-clause-node
returns-in-Some-clause-node g c =
    found_node c.self.inside.nodes c.args.self.now c.as_slice.result.now c.args.entry c.in-Some.number (g.Ix.Index.number_of c.of.result) c.self.view_is c.as_slice.ensures c.self.invariant.0 c.in-Some.ensures.inside c.in-Some.ensures.some c.of.ensures

pub returns-in-None-clause-node : goal.returns-in-None-clause-node
returns-in-None-clause-node g c =
    no_node c.self.inside.nodes c.args.self.now c.as_slice.result.now c.self.inside.by_entry.items c.as_slice-2.result.now c.args.entry c.self.view_is c.as_slice.ensures c.as_slice-2.ensures.value c.self.invariant.1 c.in-None.ensures.none
