use Rattle.abi_types.proofs.ShapedLemmas.{length-shaped, IsSameButCall-at, IsGraph-shaped}
use Rattle.abi_types.proofs.laws.shapes_change_calls_alone.Goals as goal

pub returns : goal.returns
returns c nodes calls = record { many = length-shaped nodes calls; nodes_stay = IsSameButCall-at nodes calls; graph = IsGraph-shaped nodes calls }
