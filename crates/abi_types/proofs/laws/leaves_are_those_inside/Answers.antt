use Rattle.abi_types.proofs.LeafLemmas.{leaves_of-step}
use Rattle.abi_types.proofs.laws.leaves_are_those_inside.Goals as goal

pub returns : goal.returns
returns c = leaves_of-step
