use Rattle.pair_compare.proofs.Pairs.{AreTypedPairs}
use Rattle.pair_compare.proofs.Scoping.{sound}
use Rattle.pair_compare.proofs.laws.typed_pairs_can_be_explored.Goals as goal

pub returns : goal.returns
returns c = λ old new marks old_classes new_classes marked old_sound new_sound old_nodes new_nodes.
    let law : AreTypedPairs = record { exact = c.roots_are_typed_pairs.ensures.exact; ascending = c.roots_are_typed_pairs.ensures.ascending; nodes = c.roots_are_typed_pairs.ensures.nodes } in
    sound law old new marks old_classes new_classes marked old_sound old_nodes new_nodes new_sound
