-- The nodes that are one are a closed relation.
use Rattle.pair_compare.proofs.Apart.{binds_to_itself}
use Rattle.pair_compare.proofs.Pairs.{AreTypedPairs}
use Rattle.pair_compare.proofs.Itself.{AreRules, compatible}
use Rattle.pair_compare.proofs.laws.a_library_may_replace_itself.Goals as goal

pub returns-clause-binds : goal.returns-clause-binds
returns-clause-binds c = binds_to_itself

pub returns-clause-replaces : goal.returns-clause-replaces
returns-clause-replaces c =
    let rules : AreRules = record { found = c.parts_match_in_order.ensures.found; none = c.a_type_may_replace_itself.ensures; steps = c.steps_lead_to_nodes.ensures.exact } in
    let pairs : AreTypedPairs = record { exact = c.roots_are_typed_pairs.ensures.exact; ascending = c.roots_are_typed_pairs.ensures.ascending; nodes = c.roots_are_typed_pairs.ensures.nodes } in
    compatible rules pairs
