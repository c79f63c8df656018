-- Both ways.
use Rattle.abi_types.proofs.WalkLemmas.{walk_from_leaf, leaf_from_walk}
use Rattle.abi_types.proofs.laws.leaves_are_ends_of_walks.Goals as goal

pub returns : goal.returns
returns c nodes is i bit width l = (walk_from_leaf nodes is i bit width l, λ w. leaf_from_walk nodes is w.0 i bit width l w.1)
