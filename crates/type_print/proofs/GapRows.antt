-- The sweep over members that fit: the row of a gap more.
use Rattle.std.proofs.Common.{◌≡◌, ◌<◌, ◌≤◌, ◌+◌, ◌-◌, ℕ, List, ◌∷◌, inl, inr, refl, ◌∙◌, ap, subst, arith}
use Rattle.std.specs.List.{Contains}
use Rattle.std.proofs.lemmas.Bool.{cases_lt, cases_order}
use Rattle.abi_base.proofs.lemmas.Contained.{in_front, at_front, in_rest}
use Rattle.type_print.specs.declared.extent.Extent.{Extent}
use Rattle.type_print.specs.declared.row.LayoutRow.{LayoutRow}
use Rattle.type_print.specs.declared.row.LayoutRow.TheVariants.{Member, Hole, Padding, Overlap, Outside}
use Rattle.type_print.specs.Members.{IsHeld, Key, IsBelow, rank_of}
use Rattle.type_print.specs.Rows.{key_of}
use Rattle.type_print.specs.Sweeps.{FitsFrom, IsHoleFrom, IsPaddingFrom, IsRowFrom, AreRowsFrom}
use Rattle.type_print.proofs.ListLemmas.{pairs_cons}
use Rattle.type_print.proofs.HeldBits.{IsNext, wide_one}

-- ---- rows from a higher bit, or from a lower one

hole_down : (low up : ℕ) (left : List Extent) (bit width : ℕ) → low ≤ up → up < bit → IsHoleFrom up left bit width → IsHoleFrom low left bit width
hole_down low up left bit width below less hole = record {
  above = omega arith;
  some = hole.some;
  free = hole.free;
  left = λ x from is. hole.left x (omega arith) is;
  right = hole.right;
}

hole_up : (low up : ℕ) (left : List Extent) (bit width : ℕ) → low ≤ up → up ≤ bit → IsHoleFrom low left bit width → IsHoleFrom up left bit width
hole_up low up left bit width below less hole = record {
  above = less;
  some = hole.some;
  free = hole.free;
  left = λ x from is. hole.left x (omega arith) is;
  right = hole.right;
}

padding_down : (low up : ℕ) (left : List Extent) (bits bit width : ℕ) → low ≤ up → up < bit → IsPaddingFrom up left bits bit width → IsPaddingFrom low left bits bit width
padding_down low up left bits bit width below less padding = record {
  above = omega arith;
  some = padding.some;
  ends = padding.ends;
  free = padding.free;
  left = λ x from is. padding.left x (omega arith) is;
}

padding_up : (low up : ℕ) (left : List Extent) (bits bit width : ℕ) → low ≤ up → up ≤ bit → IsPaddingFrom low left bits bit width → IsPaddingFrom up left bits bit width
padding_up low up left bits bit width below less padding = record {
  above = less;
  some = padding.some;
  ends = padding.ends;
  free = padding.free;
  left = λ x from is. padding.left x (omega arith) is;
}

gap_below : (held bit : ℕ) (key : Key) → key.section ≡ 0 → held ≡ bit → bit < key.bit → IsBelow (record { section = 0; bit = held; rank = 1; part = 0 }) key
gap_below held bit key section same less = record {
  sections = omega arith;
  bits = λ e. omega arith;
  ranks = λ e f. absurd (omega arith);
  parts = λ e f g. absurd (omega arith);
}

-- ---- a gap more

module _ (all left : List Extent) (bits held : ℕ) (fits : FitsFrom held left bits) (higher : (a : Extent) → Contains left a → held < a.bit) where
  -- no member that is left stands at the bit or below, so the row of a gap there stands before all others
  before : (up : ℕ) → held < up → (row : LayoutRow) → IsRowFrom up left bits row → IsBelow (record { section = 0; bit = held; rank = 1; part = 0 }) (key_of all row)
  before up less (Member part bit width) is =
      let above = higher (record { part = part; bit = bit; width = width }) is in
      gap_below held held (record { section = 0; bit = bit; rank = rank_of width; part = part }) refl refl above
  before up less (Hole bit width) is = let above = is.above in gap_below held held (record { section = 0; bit = bit; rank = 1; part = 0 }) refl refl (omega arith)
  before up less (Padding bit width) is = let above = is.above in gap_below held held (record { section = 0; bit = bit; rank = 1; part = 0 }) refl refl (omega arith)
  before up less (Overlap part with bit) is = absurd is
  before up less (Outside part) is = absurd is

  module _ (up : ℕ) (next : IsNext left up) (less : held < up) where
    low_free : (x : ℕ) → x < up → IsHeld left x → ⊥
    low_free x below is =
        let lowest : up ≤ is.member.bit = next.lowest is.member is.there (wide_one is.member x is.holds) in
        let from = is.holds.from in omega arith

    hole_here : IsHoleFrom held left held (up - held)
    hole_here = record {
      above = omega arith;
      some = omega arith;
      free = λ x from below is. low_free x (omega arith) is;
      left = λ x from is. absurd (omega arith);
      right = let same : up ≡ held + (up - held) = omega arith in subst (IsHeld left) same next.held;
    }

    hole_each : (row : LayoutRow) → IsRowFrom up left bits row → IsRowFrom held left bits row
    hole_each (Member part bit width) is = is
    hole_each (Hole bit width) is = elim (cases_order up bit) [
      | inl same ↦ let some = is.some in absurd (is.free up (omega arith) (omega arith) next.held)
      | inr (inl below) ↦ hole_down held up left bit width (omega arith) below is
      | inr (inr past) ↦ let above = is.above in absurd (omega arith)
    ]
    hole_each (Padding bit width) is = elim (cases_order up bit) [
      | inl same ↦ absurd (is.free up (omega arith) next.held)
      | inr (inl below) ↦ padding_down held up left bits bit width (omega arith) below is
      | inr (inr past) ↦ let above = is.above in absurd (omega arith)
    ]
    hole_each (Overlap part with bit) is = is
    hole_each (Outside part) is = is

    -- a hole that begins below the next bit is the one up to it
    hole_alone : (bit width : ℕ) → bit < up → IsHoleFrom held left bit width → (held ≡ bit) × (up - held ≡ width)
    hole_alone bit width below is =
        let above = is.above in
        let some = is.some in
        let lowest : up ≤ is.right.member.bit = next.lowest is.right.member is.right.there (wide_one is.right.member (bit + width) is.right.holds) in
        let right = is.right.holds.from in
        let begins : held ≡ bit = elim (cases_lt held bit) [
          | inl less ↦ absurd (low_free (bit - 1) (omega arith) (is.left (bit - 1) (omega arith) (omega arith)))
          | inr not ↦ omega arith
        ] in
        let ends : bit + width ≡ up = elim (cases_lt up (bit + width)) [
          | inl past ↦ absurd (is.free up (omega arith) past next.held)
          | inr not ↦ omega arith
        ] in
        (begins, omega arith)

    hole_all : (tail : List LayoutRow) → AreRowsFrom all up left bits tail → (row : LayoutRow) → IsRowFrom held left bits row → Contains (Hole held (up - held) ∷ tail) row
    hole_all tail rows (Member part bit width) is = in_rest (Hole held (up - held)) tail (Member part bit width) (rows.all (Member part bit width) is)
    hole_all tail rows (Hole bit width) is = elim (cases_lt bit up) [
      | inl below ↦
          let alone = hole_alone bit width below is in
          let same : Hole held (up - held) ≡ Hole bit width = ap (λ (b : ℕ). Hole b (up - held)) alone.0 ∙ ap (λ (w : ℕ). Hole bit w) alone.1 in
          subst (Contains (Hole held (up - held) ∷ tail)) same (at_front (Hole held (up - held)) tail)
      | inr not ↦ in_rest (Hole held (up - held)) tail (Hole bit width) (rows.all (Hole bit width) (hole_up held up left bit width (omega arith) not is))
    ]
    hole_all tail rows (Padding bit width) is = elim (cases_lt bit up) [
      | inl below ↦ absurd (is.free up (omega arith) next.held)
      | inr not ↦ in_rest (Hole held (up - held)) tail (Padding bit width) (rows.all (Padding bit width) (padding_up held up left bits bit width (omega arith) not is))
    ]
    hole_all tail rows (Overlap part with bit) is = absurd is
    hole_all tail rows (Outside part) is = absurd is

    pub hole_more : (tail : List LayoutRow) → AreRowsFrom all up left bits tail → AreRowsFrom all held left bits (Hole held (up - held) ∷ tail)
    hole_more tail rows = record {
      each = λ row there. elim (in_front (Hole held (up - held)) tail row there) [
        | inl same ↦ subst (IsRowFrom held left bits) same hole_here
        | inr rest ↦ hole_each row (rows.each row rest)
      ];
      all = hole_all tail rows;
      rise = pairs_cons (λ (a b : LayoutRow). IsBelow (key_of all a) (key_of all b)) (Hole held (up - held)) tail (λ row there. before up less row (rows.each row there)) rows.rise;
    }

    pub hole_fits : FitsFrom up left bits
    hole_fits = record {
      low = let inside = fits.inside next.there.0 next.there.1 in let same = next.there.2 in omega arith;
      follow = fits.follow;
      inside = fits.inside;
      above = next.lowest;
    }

  module _ (none : (a : Extent) → Contains left a → 0 < a.width → ⊥) (less : held < bits) where
    all_free : (x : ℕ) → IsHeld left x → ⊥
    all_free x is = none is.member is.there (wide_one is.member x is.holds)

    padding_here : IsPaddingFrom held left bits held (bits - held)
    padding_here = record {
      above = omega arith;
      some = omega arith;
      ends = omega arith;
      free = λ x from is. all_free x is;
      left = λ x from is. absurd (omega arith);
    }

    padding_each : (row : LayoutRow) → IsRowFrom bits left bits row → IsRowFrom held left bits row
    padding_each (Member part bit width) is = is
    padding_each (Hole bit width) is = absurd (all_free (bit + width) is.right)
    padding_each (Padding bit width) is = let above = is.above in let some = is.some in let ends = is.ends in absurd (omega arith)
    padding_each (Overlap part with bit) is = is
    padding_each (Outside part) is = is

    padding_all : (tail : List LayoutRow) → AreRowsFrom all bits left bits tail → (row : LayoutRow) → IsRowFrom held left bits row → Contains (Padding held (bits - held) ∷ tail) row
    padding_all tail rows (Member part bit width) is = in_rest (Padding held (bits - held)) tail (Member part bit width) (rows.all (Member part bit width) is)
    padding_all tail rows (Hole bit width) is = absurd (all_free (bit + width) is.right)
    padding_all tail rows (Padding bit width) is =
        let above = is.above in
        let ends = is.ends in
        let begins : held ≡ bit = elim (cases_lt held bit) [
          | inl less ↦ absurd (all_free (bit - 1) (is.left (bit - 1) (omega arith) (omega arith)))
          | inr not ↦ omega arith
        ] in
        let wide : bits - held ≡ width = omega arith in
        let same : Padding held (bits - held) ≡ Padding bit width = ap (λ (b : ℕ). Padding b (bits - held)) begins ∙ ap (λ (w : ℕ). Padding bit w) wide in
        subst (Contains (Padding held (bits - held) ∷ tail)) same (at_front (Padding held (bits - held)) tail)
    padding_all tail rows (Overlap part with bit) is = absurd is
    padding_all tail rows (Outside part) is = absurd is

    pub padding_more : (tail : List LayoutRow) → AreRowsFrom all bits left bits tail → AreRowsFrom all held left bits (Padding held (bits - held) ∷ tail)
    padding_more tail rows = record {
      each = λ row there. elim (in_front (Padding held (bits - held)) tail row there) [
        | inl same ↦ subst (IsRowFrom held left bits) same padding_here
        | inr rest ↦ padding_each row (rows.each row rest)
      ];
      all = padding_all tail rows;
      rise = pairs_cons (λ (a b : LayoutRow). IsBelow (key_of all a) (key_of all b)) (Padding held (bits - held)) tail (λ row there. before bits less row (rows.each row there)) rows.rise;
    }

    pub padding_fits : FitsFrom bits left bits
    padding_fits = record {
      low = omega arith;
      follow = fits.follow;
      inside = fits.inside;
      above = λ a there positive. absurd (none a there positive);
    }
