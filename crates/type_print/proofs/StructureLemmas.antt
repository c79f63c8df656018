-- The members of a structure, and the positions that its rows name.
use Rattle.std.proofs.Common.{◌≡◌, ◌<◌, ◌+◌, ℕ, List, [], ◌∷◌, ◌++◌, length, get_or, map, refl, sym, ◌∙◌, ap, inl, inr, arith}
use Rattle.std.specs.List.{Contains, range_with_len}
use Rattle.std.proofs.lemmas.Bool.{cases_lt}
use Rattle.std.proofs.lemmas.List.{length-append, length-map, get_or-map, get_or_append_left, get_or_default, get_or_push}
use Rattle.std.proofs.lemmas.List.Elements.{Contains-get_or}
use Rattle.std.proofs.lemmas.List.FromFn.{length-range_with_len, get_or-range_with_len, map-range_with_len_more}
use Rattle.abi_types.specs.Types.{Member, PlainView, PlainNode}
use Rattle.abi_types.specs.Graphs.{part_at}
use Rattle.type_print.specs.declared.extent.Extent.{Extent}
use Rattle.type_print.specs.declared.row.LayoutRow.{LayoutRow}
use Rattle.type_print.specs.declared.row.LayoutRow.TheVariants as row
use Rattle.type_print.specs.Members.{no_member, member_at, AreNumbered}
use Rattle.type_print.specs.Rows.{IsRow, AreRows}
use Rattle.type_print.specs.Structures.{extent_in, members_of}
use Rattle.type_print.specs.Texts.{IsInside, AreInside}
use Rattle.type_print.proofs.lemmas.Extents.{part_is}

pub length_members : (nodes : List PlainNode) (v : PlainView) → length (members_of nodes v) ≡ length v.parts
unfolding members_of
length_members nodes v = length-map (range_with_len 0 (length v.parts)) (λ k. extent_in nodes k (part_at v k)) ∙ length-range_with_len 0 (length v.parts)

pub members_numbered : (nodes : List PlainNode) (v : PlainView) → AreNumbered (members_of nodes v)
unfolding members_of
members_numbered nodes v k inside =
    let f : ℕ → Extent = λ i. extent_in nodes i (part_at v i) in
    let range = range_with_len 0 (length v.parts) in
    let below : k < length v.parts = let long = length_members nodes v in omega arith in
    let ranged : k < length range = let long = length-range_with_len 0 (length v.parts) in omega arith in
    let read : get_or (map f range) k no_member ≡ f (get_or range k 0) = get_or-map f range k 0 no_member ranged in
    let zero_first : 0 + k ≡ k = omega arith in
    let number : get_or range k 0 ≡ k = get_or-range_with_len 0 (length v.parts) k 0 below ∙ zero_first in
    ap (λ (e : Extent). e.part) read ∙ part_is nodes (get_or range k 0) (part_at v (get_or range k 0)) ∙ number

-- a member more
pub members_more : (nodes : List PlainNode) (v : PlainView) (k : ℕ) (items next : List Extent) (e : Extent) → items ≡ map (λ i. extent_in nodes i (part_at v i)) (range_with_len 0 k) → next ≡ items ++ e ∷ []
    → e ≡ extent_in nodes k (part_at v k) → next ≡ map (λ i. extent_in nodes i (part_at v i)) (range_with_len 0 (k + 1))
members_more nodes v k items next e so_far grown is =
    let f : ℕ → Extent = λ i. extent_in nodes i (part_at v i) in
    let zero_first : 0 + k ≡ k = omega arith in
    grown ∙ ap (λ (l : List Extent). l ++ e ∷ []) so_far ∙ ap (λ (x : Extent). map f (range_with_len 0 k) ++ x ∷ []) is ∙ sym (map-range_with_len_more f 0 k k zero_first)

pub members_done : (nodes : List PlainNode) (v : PlainView) (n : ℕ) (items : List Extent) → items ≡ map (λ i. extent_in nodes i (part_at v i)) (range_with_len 0 n) → n ≡ length v.parts → items ≡ members_of nodes v
unfolding members_of
members_done nodes v n items is done = is ∙ ap (λ (m : ℕ). map (λ i. extent_in nodes i (part_at v i)) (range_with_len 0 m)) done

-- each member's position is one of the view's
part_inside : (nodes : List PlainNode) (v : PlainView) (e : Extent) → Contains (members_of nodes v) e → e.part < length v.parts
part_inside nodes v e there =
    let inside : there.0 < length (members_of nodes v) = there.1 in
    let is : member_at (members_of nodes v) there.0 ≡ e = get_or_default (members_of nodes v) there.0 no_member e inside ∙ there.2 in
    let part : there.0 ≡ e.part = sym (members_numbered nodes v there.0 inside) ∙ ap (λ (m : Extent). m.part) is in
    let long = length_members nodes v in
    omega arith

row_inside : (nodes : List PlainNode) (v : PlainView) (bits : ℕ) (r : LayoutRow) → IsRow (members_of nodes v) bits r → IsInside v r
row_inside nodes v bits (row.Member part bit width) is = part_inside nodes v (record { part = part; bit = bit; width = width }) is
row_inside nodes v bits (row.Hole bit width) is = tt
row_inside nodes v bits (row.Padding bit width) is = tt
row_inside nodes v bits (row.Overlap part with bit) is =
    let one = part_inside nodes v is.member is.there in
    let two = part_inside nodes v is.other is.other_there in
    let mine = is.is in
    let yours = is.other_is in
    (omega arith, omega arith)
row_inside nodes v bits (row.Outside part) is = let one = part_inside nodes v is.member is.there in let mine = is.is in omega arith

pub rows_inside : (nodes : List PlainNode) (v : PlainView) (bits : ℕ) (rows : List LayoutRow) → AreRows (members_of nodes v) bits rows → AreInside v rows
rows_inside nodes v bits rows are k d below = row_inside nodes v bits (get_or rows k d) (are.each (get_or rows k d) (Contains-get_or rows k d below))
