-- The members of a structure stand under their positions.
use Rattle.std.proofs.Common.{◌≡◌, ◌<◌, ◌+◌, ℕ, List, length, get_or, map, ◌∙◌, ap, arith}
use Rattle.std.specs.List.{range_with_len}
use Rattle.std.proofs.lemmas.List.{length-map, get_or-map}
use Rattle.std.proofs.lemmas.List.FromFn.{length-range_with_len, get_or-range_with_len}
use Rattle.abi_types.specs.Types.{PlainNode, PlainView}
use Rattle.abi_types.specs.Graphs.{part_at}
use Rattle.type_print.specs.declared.extent.Extent.{Extent}
use Rattle.type_print.specs.Members.{no_member, AreNumbered}
use Rattle.type_print.specs.Structures.{extent_in, members_of}
use Rattle.type_print.proofs.lemmas.Extents.{part_is}

pub numbered : (nodes : List PlainNode) (v : PlainView) → AreNumbered (members_of nodes v)
unfolding members_of
numbered nodes v k inside =
    let extent : ℕ → Extent = λ i. extent_in nodes i (part_at v i) in
    let range = range_with_len 0 (length v.parts) in
    let many : length range ≡ length v.parts = length-range_with_len 0 (length v.parts) in
    let mapped : length (map extent range) ≡ length range = length-map range extent in
    let below : k < length v.parts = omega arith in
    let ranged : k < length range = omega arith in
    let zero_first : 0 + k ≡ k = omega arith in
    let at : get_or range k 0 ≡ k = get_or-range_with_len 0 (length v.parts) k 0 below ∙ zero_first in
    ap (λ (e : Extent). e.part) (get_or-map extent range k 0 no_member ranged) ∙ part_is nodes (get_or range k 0) (part_at v (get_or range k 0)) ∙ at
