-- Extents of parts.
use Rattle.std.proofs.Common.{◌≡◌, ℕ, List, refl}
use Rattle.abi_types.specs.Types.{PlainPart, Member, Enumerator, Target, Element, Outcome, Param, PlainNode}
use Rattle.type_print.specs.Structures.{extent_in}

pub part_is : (nodes : List PlainNode) (k : ℕ) (part : PlainPart) → (extent_in nodes k part).part ≡ k
part_is nodes k (Member name bit width to) = refl
part_is nodes k (Enumerator name value) = refl
part_is nodes k (Target to) = refl
part_is nodes k (Element to) = refl
part_is nodes k (Outcome to) = refl
part_is nodes k (Param to) = refl
