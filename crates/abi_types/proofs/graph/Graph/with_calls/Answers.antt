-- The graph with its call places is one, and entries are as they were.
use Rattle.std.proofs.Common.{◌∙◌}
use Rattle.abi_types.proofs.ShapedLemmas.{KeepsAll-shaped}
use Rattle.abi_types.proofs.graph.Graph.with_calls.Goals as goal

pub invariant_of-result : goal.invariant_of-result
invariant_of-result g c =
    KeepsAll-shaped c.self.inside.nodes c.into_vec.result.items c.into_vec-2.result.items c.of.result c.self.inside.by_entry.items c.into_vec.ensures (c.of.ensures ∙ c.with_each_call-nodes.ensures) c.self.invariant
