-- The sweep over members that fit: a member less, and the whole sweep.
use Rattle.std.proofs.Common.{◌≡◌, ◌<◌, ◌≤◌, ◌+◌, ◌-◌, ℕ, List, [], ◌∷◌, ◌++◌, length, drop, Option, Some, None, max, inl, inr, refl, sym, ◌∙◌, ap, subst, arith, append_assoc}
use Rattle.std.specs.Prelude.{nat_lt}
use Rattle.std.specs.List.{AllPairs, Contains}
use Rattle.std.proofs.lemmas.Bool.{cases_lt, lt-ltb, le-ltb, cond-true, cond-false}
use Rattle.std.proofs.lemmas.List.{drop_more}
use Rattle.abi_base.proofs.lemmas.Contained.{in_none, in_front, at_front, in_rest}
use Rattle.type_print.specs.declared.extent.Extent.{Extent}
use Rattle.type_print.specs.declared.row.LayoutRow.{LayoutRow}
use Rattle.type_print.specs.declared.row.LayoutRow.TheVariants.{Member, Hole, Padding, Overlap, Outside}
use Rattle.type_print.specs.Members.{Holds, IsHeld, IsBelow, member_key, Precedes, AreInOrder, row_of, member_at, no_member}
use Rattle.type_print.specs.Rows.{Fits, IsFittingRow, key_of, AreExactly}
use Rattle.type_print.specs.Sweeps.{next_bit, gap_end, gap_row, padding_rows, Follows, FitsFrom, IsHoleFrom, IsPaddingFrom, IsRowFrom, AreRowsFrom, IsSwept}
use Rattle.type_print.proofs.ListLemmas.{pairs_none, pairs_head, pairs_tail, pairs_cons, pairs_stronger}
use Rattle.type_print.proofs.HeldBits.{held_cases, held_head, held_none, held_tail, next_is, next_none}
use Rattle.type_print.proofs.GapRows.{hole_fits, hole_more, padding_fits, padding_more}

-- ---- a member less

module _ (all : List Extent) (e : Extent) (es : List Extent) (bits held : ℕ) (fits : FitsFrom held (e ∷ es) bits) (reached : e.bit ≤ held) where
  pub member_fits : FitsFrom (max held (e.bit + e.width)) es bits
  member_fits = record {
    low = let low = fits.low in let inside = fits.inside e (at_front e es) in omega arith;
    follow = pairs_tail Follows e es fits.follow;
    inside = λ a there. fits.inside a (in_rest e es a there);
    above = λ a there positive.
        let above = fits.above a (in_rest e es a there) positive in
        elim (cases_lt 0 e.width) [
          | inl wide ↦ let clear = (pairs_head Follows e es fits.follow a there).clear wide positive in omega arith
          | inr empty ↦ omega arith
        ];
  }

  -- a bit that the member does not hold, although it stands at the one above or behind
  not_here : (x : ℕ) → max held (e.bit + e.width) ≤ x → Holds e x → ⊥
  not_here x past holds = let below = holds.below in omega arith

  left_here : (bit x : ℕ) → max held (e.bit + e.width) ≤ bit → held ≤ x → x + 1 ≡ bit → ((max held (e.bit + e.width) ≤ x → IsHeld es x)) → IsHeld (e ∷ es) x
  left_here bit x above from is rest = elim (cases_lt x (max held (e.bit + e.width))) [
    | inl below ↦ held_head e es x (record { from = omega arith; below = omega arith })
    | inr past ↦ held_tail e es x (rest past)
  ]

  not_held : (x : ℕ) → max held (e.bit + e.width) ≤ x → (IsHeld es x → ⊥) → IsHeld (e ∷ es) x → ⊥
  not_held x past free is = elim (held_cases e es x is) [ inl here ↦ not_here x past here | inr rest ↦ free rest ]

  held_behind : (x : ℕ) → max held (e.bit + e.width) ≤ x → IsHeld (e ∷ es) x → IsHeld es x
  held_behind x past is = elim (held_cases e es x is) [ inl here ↦ absurd (not_here x past here) | inr rest ↦ rest ]

  -- where a free bit stands, the member has ended
  free_behind : (bit : ℕ) → held ≤ bit → (IsHeld (e ∷ es) bit → ⊥) → max held (e.bit + e.width) ≤ bit
  free_behind bit from free = elim (cases_lt bit (max held (e.bit + e.width))) [
    | inl below ↦ absurd (free (held_head e es bit (record { from = omega arith; below = omega arith })))
    | inr past ↦ past
  ]

  member_each : (row : LayoutRow) → IsRowFrom (max held (e.bit + e.width)) es bits row → IsRowFrom held (e ∷ es) bits row
  member_each (Member part bit width) is = in_rest e es (record { part = part; bit = bit; width = width }) is
  member_each (Hole bit width) is = let above = is.above in record {
    above = omega arith;
    some = is.some;
    free = λ x from below. not_held x (omega arith) (is.free x from below);
    left = λ x from same. left_here bit x above from same (λ past. is.left x past same);
    right = held_tail e es (bit + width) is.right;
  }
  member_each (Padding bit width) is = let above = is.above in record {
    above = omega arith;
    some = is.some;
    ends = is.ends;
    free = λ x from. not_held x (omega arith) (is.free x from);
    left = λ x from same. left_here bit x above from same (λ past. is.left x past same);
  }
  member_each (Overlap part with bit) is = is
  member_each (Outside part) is = is

  hole_behind : (bit width : ℕ) → IsHoleFrom held (e ∷ es) bit width → IsHoleFrom (max held (e.bit + e.width)) es bit width
  hole_behind bit width is =
      let some = is.some in
      let above : max held (e.bit + e.width) ≤ bit = free_behind bit is.above (is.free bit (omega arith) (omega arith)) in
      record {
        above = above;
        some = some;
        free = λ x from below held. is.free x from below (held_tail e es x held);
        left = λ x from same. held_behind x from (is.left x (omega arith) same);
        right = held_behind (bit + width) (omega arith) is.right;
      }

  padding_behind : (bit width : ℕ) → IsPaddingFrom held (e ∷ es) bits bit width → IsPaddingFrom (max held (e.bit + e.width)) es bits bit width
  padding_behind bit width is =
      let above : max held (e.bit + e.width) ≤ bit = free_behind bit is.above (is.free bit (omega arith)) in
      record {
        above = above;
        some = is.some;
        ends = is.ends;
        free = λ x from held. is.free x from (held_tail e es x held);
        left = λ x from same. held_behind x from (is.left x (omega arith) same);
      }

  member_all : (tail : List LayoutRow) → AreRowsFrom all (max held (e.bit + e.width)) es bits tail → (row : LayoutRow) → IsRowFrom held (e ∷ es) bits row → Contains (row_of e ∷ tail) row
  member_all tail rows (Member part bit width) is = elim (in_front e es (record { part = part; bit = bit; width = width }) is) [
    | inl same ↦ subst (λ (m : Extent). Contains (row_of e ∷ tail) (row_of m)) same (at_front (row_of e) tail)
    | inr rest ↦ in_rest (row_of e) tail (Member part bit width) (rows.all (Member part bit width) rest)
  ]
  member_all tail rows (Hole bit width) is = in_rest (row_of e) tail (Hole bit width) (rows.all (Hole bit width) (hole_behind bit width is))
  member_all tail rows (Padding bit width) is = in_rest (row_of e) tail (Padding bit width) (rows.all (Padding bit width) (padding_behind bit width is))
  member_all tail rows (Overlap part with bit) is = absurd is
  member_all tail rows (Outside part) is = absurd is

  below_gap : (bit : ℕ) → max held (e.bit + e.width) ≤ bit → IsBelow (member_key 0 e) (record { section = 0; bit = bit; rank = 1; part = 0 })
  below_gap bit above = record {
    sections = omega arith;
    bits = λ s. omega arith;
    ranks = λ s b. let empty : e.width ≡ 0 = omega arith in omega arith;
    parts = λ s b r. absurd (omega arith);
  }

  member_below : (row : LayoutRow) → IsRowFrom (max held (e.bit + e.width)) es bits row → IsBelow (key_of all (row_of e)) (key_of all row)
  member_below (Member part bit width) is = (pairs_head Follows e es fits.follow (record { part = part; bit = bit; width = width }) is).order
  member_below (Hole bit width) is = below_gap bit is.above
  member_below (Padding bit width) is = below_gap bit is.above
  member_below (Overlap part with bit) is = absurd is
  member_below (Outside part) is = absurd is

  pub member_more : (tail : List LayoutRow) → AreRowsFrom all (max held (e.bit + e.width)) es bits tail → AreRowsFrom all held (e ∷ es) bits (row_of e ∷ tail)
  member_more tail rows = record {
    each = λ row there. elim (in_front (row_of e) tail row there) [
      | inl same ↦ subst (IsRowFrom held (e ∷ es) bits) same (at_front e es)
      | inr rest ↦ member_each row (rows.each row rest)
    ];
    all = member_all tail rows;
    rise = pairs_cons (λ (a b : LayoutRow). IsBelow (key_of all a) (key_of all b)) (row_of e) tail (λ row there. member_below row (rows.each row there)) rows.rise;
  }

-- ---- the end

pub end_none : (all : List Extent) (held bits : ℕ) → bits ≤ held → AreRowsFrom all held [] bits []
end_none all held bits past = record {
  each = λ row there. absurd (in_none row there);
  all = nothing;
  rise = pairs_none (λ (a b : LayoutRow). IsBelow (key_of all a) (key_of all b));
} where
  nothing : (row : LayoutRow) → IsRowFrom held [] bits row → Contains [] row
  nothing (Member part bit width) is = absurd (in_none (record { part = part; bit = bit; width = width }) is)
  nothing (Hole bit width) is = absurd (held_none (bit + width) is.right)
  nothing (Padding bit width) is = let above = is.above in let some = is.some in let ends = is.ends in absurd (omega arith)
  nothing (Overlap part with bit) is = absurd is
  nothing (Outside part) is = absurd is

pub end_padding : (all : List Extent) (held bits : ℕ) → held < bits → AreRowsFrom all held [] bits (Padding held (bits - held) ∷ [])
end_padding all held bits less =
    let fits : FitsFrom held [] bits = record {
      low = omega arith;
      follow = pairs_none Follows;
      inside = λ a there. absurd (in_none a there);
      above = λ a there positive. absurd (in_none a there);
    } in
    padding_more all [] bits held fits (λ a there. absurd (in_none a there)) (λ a there positive. in_none a there) less [] (end_none all bits bits (omega arith))

-- ---- the whole sweep

-- the rows from bit 0 on are all rows
from_start : (all whole : List Extent) (bits : ℕ) (tail : List LayoutRow) → AreRowsFrom all 0 whole bits tail → AreExactly (IsFittingRow whole bits) (key_of all) tail
from_start all whole bits tail rows = record {
  each = λ row there. down row (rows.each row there);
  all = λ row is. rows.all row (up row is);
  rise = rows.rise;
} where
  down : (row : LayoutRow) → IsRowFrom 0 whole bits row → IsFittingRow whole bits row
  down (Member part bit width) is = is
  down (Hole bit width) is = record { some = is.some; free = is.free; left = λ x same. is.left x (omega arith) same; right = is.right }
  down (Padding bit width) is = record { some = is.some; ends = is.ends; free = is.free; left = λ x same. is.left x (omega arith) same }
  down (Overlap part with bit) is = is
  down (Outside part) is = is

  up : (row : LayoutRow) → IsFittingRow whole bits row → IsRowFrom 0 whole bits row
  up (Member part bit width) is = is
  up (Hole bit width) is = record { above = omega arith; some = is.some; free = is.free; left = λ x from same. is.left x same; right = is.right }
  up (Padding bit width) is = record { above = omega arith; some = is.some; ends = is.ends; free = is.free; left = λ x from same. is.left x same }
  up (Overlap part with bit) is = is
  up (Outside part) is = is

-- members in order that fit stand behind one another
follows : (whole : List Extent) (bits : ℕ) → Fits whole bits → (a b : Extent) → Contains whole a → Contains whole b → Precedes a b → Follows a b
follows whole bits fits a b first second order = record {
  order = order;
  clear = λ wide positive. elim (cases_lt b.bit (a.bit + a.width)) [
    | inl meets ↦
        let bits : a.bit ≤ b.bit = order.bits refl in
        absurd (fits.apart a b first second order (record { bit = b.bit; first = record { from = bits; below = meets }; second = record { from = omega arith; below = omega arith } }))
    | inr not ↦ not
  ];
}

pub start_fits : (whole : List Extent) (bits : ℕ) → AreInOrder whole → Fits whole bits → FitsFrom 0 whole bits
start_fits whole bits order fits = record {
  low = omega arith;
  follow = pairs_stronger Precedes Follows whole (follows whole bits fits) order;
  inside = fits.inside;
  above = λ a there positive. omega arith;
}

pub swept_start : (all whole : List Extent) (bits : ℕ) → AreInOrder whole → Fits whole bits → IsSwept all whole bits [] 0 whole
swept_start all whole bits order fits = record { fits = start_fits whole bits order fits; leads = from_start all whole bits }

-- ---- the steps

more_rows : (all whole : List Extent) (bits : ℕ) (rows next : List LayoutRow) (row : LayoutRow) (held up : ℕ) (left after : List Extent) → next ≡ rows ++ row ∷ [] → FitsFrom up after bits
    → ((tail : List LayoutRow) → AreRowsFrom all up after bits tail → AreRowsFrom all held left bits (row ∷ tail)) → IsSwept all whole bits rows held left → IsSwept all whole bits next up after
more_rows all whole bits rows next row held up left after grown fits more swept = record {
  fits = fits;
  leads = λ tail is.
      let joined : rows ++ (row ∷ tail) ≡ next ++ tail = sym (append_assoc rows (row ∷ []) tail) ∙ ap (λ (l : List LayoutRow). l ++ tail) (sym grown) in
      subst (AreExactly (IsFittingRow whole bits) (key_of all)) joined (swept.leads (row ∷ tail) (more tail is));
}

higher_all : (left : List Extent) (bits held : ℕ) (first : Extent) (others : List Extent) → left ≡ first ∷ others → held < first.bit → FitsFrom held left bits → (a : Extent) → Contains left a → held < a.bit
higher_all left bits held first others is less fits a there =
    let follow : AllPairs Follows (first ∷ others) = subst (AllPairs Follows) is fits.follow in
    let inside : Contains (first ∷ others) a = subst (λ (l : List Extent). Contains l a) is there in
    elim (in_front first others a inside) [
      | inl same ↦ let eq : first.bit ≡ a.bit = ap (λ (m : Extent). m.bit) same in omega arith
      | inr rest ↦ let order : first.bit ≤ a.bit = (pairs_head Follows first others follow a rest).order.bits refl in omega arith
    ]

first_there : (left : List Extent) (first : Extent) (others : List Extent) → left ≡ first ∷ others → Contains left first
first_there left first others is = subst (λ (l : List Extent). Contains l first) (sym is) (at_front first others)

-- where the first member stands behind the bit, the next end is behind it too
pub gap_room : (left : List Extent) (bits held : ℕ) (first : Extent) (others : List Extent) → left ≡ first ∷ others → held < first.bit → FitsFrom held left bits → held < gap_end (next_bit left) bits
gap_room left bits held first others is less fits = go (next_bit left) refl where
  go : (next : Option ℕ) → next_bit left ≡ next → held < gap_end next bits
  go (Some bit) same =
      let next = next_is left bit fits.follow same in
      let above = higher_all left bits held first others is less fits next.there.0 next.there.1 in
      let eq = next.there.2 in omega arith
  go None same = let inside = fits.inside first (first_there left first others is) in omega arith

pub swept_gap : (all whole : List Extent) (bits : ℕ) (rows next : List LayoutRow) (held : ℕ) (left : List Extent) (first : Extent) (others : List Extent) → left ≡ first ∷ others → held < first.bit
    → next ≡ rows ++ gap_row held (next_bit left) bits ∷ [] → IsSwept all whole bits rows held left → IsSwept all whole bits next (gap_end (next_bit left) bits) left
swept_gap all whole bits rows next held left first others is less grown swept = go (next_bit left) refl where
  higher : (a : Extent) → Contains left a → held < a.bit
  higher = higher_all left bits held first others is less swept.fits

  room : held < gap_end (next_bit left) bits
  room = gap_room left bits held first others is less swept.fits

  go : (n : Option ℕ) → next_bit left ≡ n → IsSwept all whole bits next (gap_end (next_bit left) bits) left
  go (Some up) same =
      let is_next = next_is left up swept.fits.follow same in
      let given : next ≡ rows ++ Hole held (up - held) ∷ [] = grown ∙ ap (λ (o : Option ℕ). rows ++ gap_row held o bits ∷ []) same in
      let above : held < up = let P : Option ℕ → Type 0 = λ o. held < gap_end o bits in subst P same room in
      let there = more_rows all whole bits rows next (Hole held (up - held)) held up left left given (hole_fits all left bits held swept.fits higher up is_next above)
      (hole_more all left bits held swept.fits higher up is_next above) swept in
      let P : Option ℕ → Type 0 = λ o. IsSwept all whole bits next (gap_end o bits) left in
      subst P (sym same) there
  go None same =
      let none = next_none left same in
      let given : next ≡ rows ++ Padding held (bits - held) ∷ [] = grown ∙ ap (λ (o : Option ℕ). rows ++ gap_row held o bits ∷ []) same in
      let above : held < bits = let P : Option ℕ → Type 0 = λ o. held < gap_end o bits in subst P same room in
      let there = more_rows all whole bits rows next (Padding held (bits - held)) held bits left left given (padding_fits all left bits held swept.fits higher none above)
      (padding_more all left bits held swept.fits higher none above) swept in
      let P : Option ℕ → Type 0 = λ o. IsSwept all whole bits next (gap_end o bits) left in
      subst P (sym same) there

-- the first member that is left stands at the end of the gap or before it
pub gap_reached : (left : List Extent) (bits held : ℕ) → FitsFrom held left bits → (member : Extent) (others : List Extent) → left ≡ member ∷ others → member.bit ≤ gap_end (next_bit left) bits
gap_reached left bits held fits member others is = go (next_bit left) refl where
  there : Contains left member
  there = subst (λ (l : List Extent). Contains l member) (sym is) (at_front member others)

  go : (n : Option ℕ) → next_bit left ≡ n → member.bit ≤ gap_end n bits
  go (Some up) same =
      let next = next_is left up fits.follow same in
      let inside : Contains (member ∷ others) next.there.0 = subst (λ (l : List Extent). Contains l next.there.0) is next.there.1 in
      let follow : AllPairs Follows (member ∷ others) = subst (AllPairs Follows) is fits.follow in
      let eq = next.there.2 in
      elim (in_front member others next.there.0 inside) [
        | inl here ↦ let bit : member.bit ≡ next.there.0.bit = ap (λ (m : Extent). m.bit) here in omega arith
        | inr rest ↦ let order : member.bit ≤ next.there.0.bit = (pairs_head Follows member others follow next.there.0 rest).order.bits refl in omega arith
      ]
  go None same = let inside = fits.inside member there in omega arith

pub swept_member : (all whole : List Extent) (bits : ℕ) (rows next : List LayoutRow) (held : ℕ) (left : List Extent) (member : Extent) (others : List Extent) → left ≡ member ∷ others → member.bit ≤ held
    → next ≡ rows ++ row_of member ∷ [] → IsSwept all whole bits rows held left → IsSwept all whole bits next (max held (member.bit + member.width)) others
swept_member all whole bits rows next held left member others is reached grown swept =
    let here : IsSwept all whole bits rows held (member ∷ others) = subst (IsSwept all whole bits rows held) is swept in
    more_rows all whole bits rows next (row_of member) held (max held (member.bit + member.width)) (member ∷ others) others grown (member_fits all member others bits held here.fits reached)
    (member_more all member others bits held here.fits reached) here

pub swept_end : (all whole : List Extent) (bits : ℕ) (rows next : List LayoutRow) (held : ℕ) (left : List Extent) → left ≡ [] → next ≡ rows ++ padding_rows held bits → IsSwept all whole bits rows held left
    → AreExactly (IsFittingRow whole bits) (key_of all) next
swept_end all whole bits rows next held left is grown swept =
    let here : IsSwept all whole bits rows held [] = subst (IsSwept all whole bits rows held) is swept in
    let Q : List LayoutRow → Type 0 = λ l. AreExactly (IsFittingRow whole bits) (key_of all) (rows ++ l) in
    subst (AreExactly (IsFittingRow whole bits) (key_of all)) (sym grown) (elim (cases_lt held bits) [
      | inl less ↦ subst Q (sym (cond-true (nat_lt held bits) (Padding held (bits - held) ∷ []) [] (lt-ltb held bits less))) (here.leads (Padding held (bits - held) ∷ []) (end_padding all held bits less))
      | inr past ↦ subst Q (sym (cond-false (nat_lt held bits) (Padding held (bits - held) ∷ []) [] (le-ltb held bits past))) (here.leads [] (end_none all held bits past))
    ])

-- the member at k is inside
pub member_inside : (members : List Extent) (k held bits : ℕ) → k < length members → FitsFrom held (drop k members) bits → (member_at members k).bit + (member_at members k).width ≤ bits
member_inside members k held bits inside fits = fits.inside (member_at members k) (first_there (drop k members) (member_at members k) (drop (k + 1) members) (drop_more members k no_member inside))
