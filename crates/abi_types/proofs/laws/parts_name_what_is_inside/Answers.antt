-- The part that names it is at hand.
use Rattle.std.proofs.Common.{◌≡◌, ℕ, Some}
use Rattle.abi_types.specs.Graphs.{part_at, inner_of}
use Rattle.abi_types.proofs.LeafLemmas.{inside-named}
use Rattle.abi_types.proofs.laws.parts_name_what_is_inside.Goals as goal

pub returns : goal.returns
returns c nodes v n x is = inside-named nodes (λ to. (k : ℕ) × (inner_of (part_at v k) ≡ Some to)) v n x is (λ k to named. (k, named))
