-- The laws of layouts.
use Rattle.std.proofs.Common.{◌≡◌, ◌<◌, ◌≤◌, ◌+◌, ◌-◌, ℕ, zero, suc, true, List, [], ◌∷◌, length, ◌⊎◌, inl, inr, refl, sym, ◌∙◌, ap, subst, arith}
use Rattle.std.specs.List.{AllPairs, Contains}
use Rattle.std.proofs.lemmas.Bool.{cases_lt, cases_order, both_ways}
use Rattle.std.proofs.lemmas.List.{get_or_default}
use Rattle.std.proofs.lemmas.List.Elements.{Contains-get_or}
use Rattle.abi_base.proofs.lemmas.Contained.{in_none, in_front, at_front, in_rest}
use Rattle.type_print.specs.declared.extent.Extent.{Extent}
use Rattle.type_print.specs.declared.row.LayoutRow.{LayoutRow}
use Rattle.type_print.specs.declared.row.LayoutRow.TheVariants.{Member, Hole, Padding, Overlap, Outside}
use Rattle.type_print.specs.Members.{Holds, IsHeld, IsBelow, AreNumbered, row_of}
use Rattle.type_print.specs.Rows.{Fits, IsHole, IsPadding, IsRow, key_of, AreRows}
use Rattle.type_print.specs.Laws.{Lies, RowHolds, row_end, row_at, IsClean, CoverEachBitOnce, RowsNameClashes, RowsAreDetermined}
use Rattle.type_print.proofs.ListLemmas.{pairs_head, pairs_tail}
use Rattle.type_print.proofs.OrderLemmas.{below_not_both, below_not_itself, precede_cases, names_itself, same_member}
use Rattle.type_print.proofs.HeldBits.{held_head, held_tail, held_cases}
use Rattle.type_print.proofs.JoinLemmas.{overlap_there}

-- ---- clashes have rows

pub name_clashes : RowsNameClashes
name_clashes members bits rows are = record {
  overlap = λ a b first second order meet. let found = overlap_there members a b first second order meet in (found.0, found.1, are.all (Overlap b.part found.0 found.1) found.2);
  outside = λ a there past. are.all (Outside a.part) (record { member = a; there = there; is = refl; past = past });
}

-- ---- bits that are held or free

held_or_not : (members : List Extent) (x : ℕ) → IsHeld members x ⊎ (IsHeld members x → ⊥)
held_or_not [] x = inr (λ held. in_none held.member held.there)
held_or_not (e ∷ es) x = elim (held_or_not es x) [
  | inl held ↦ inl (held_tail e es x held)
  | inr free ↦ elim (cases_lt x e.bit) [
    | inl before ↦ inr (λ held. elim (held_cases e es x held) [ inl here ↦ let from = here.from in omega arith | inr rest ↦ free rest ])
    | inr from ↦ elim (cases_lt x (e.bit + e.width)) [
      | inl below ↦ inl (held_head e es x (record { from = from; below = below }))
      | inr past ↦ inr (λ held. elim (held_cases e es x held) [ inl here ↦ let below = here.below in omega arith | inr rest ↦ free rest ])
    ]
  ]
]

-- the free bits up to one
record RunBelow (members : List Extent) (x : ℕ) : Type 0 where
  pub bit : ℕ
  pub upto : bit ≤ x
  pub free : (y : ℕ) → bit ≤ y → y ≤ x → IsHeld members y → ⊥
  pub left : (y : ℕ) → y + 1 ≡ bit → IsHeld members y

run_below : (members : List Extent) (x : ℕ) → (IsHeld members x → ⊥) → RunBelow members x
run_below members zero free = record {
  bit = 0;
  upto = omega arith;
  free = λ y from upto held. let same : y ≡ 0 = omega arith in free (subst (IsHeld members) same held);
  left = λ y same. absurd (omega arith);
}
run_below members (suc x) free = elim (held_or_not members x) [
  | inl held ↦ record {
    bit = suc x;
    upto = omega arith;
    free = λ y from upto here. let same : y ≡ suc x = omega arith in free (subst (IsHeld members) same here);
    left = λ y same. let is : x ≡ y = omega arith in subst (IsHeld members) is held;
  }
  | inr not ↦
      let run = run_below members x not in
      let below = run.upto in
      record {
        bit = run.bit;
        upto = omega arith;
        free = λ y from upto here. elim (cases_lt x y) [
          | inl past ↦ let same : y ≡ suc x = omega arith in free (subst (IsHeld members) same here)
          | inr inside ↦ run.free y from inside here
        ];
        left = run.left;
      }
]

-- the free bits from one on, up to a held one, or to this many
record RunAbove (members : List Extent) (x d : ℕ) : Type 0 where
  pub end : ℕ
  pub past : x < end
  pub upto : end ≤ x + (d + 1)
  pub free : (y : ℕ) → x ≤ y → y < end → IsHeld members y → ⊥
  pub stops : IsHeld members end ⊎ (end ≡ x + (d + 1))

run_above : (members : List Extent) (d x : ℕ) → (IsHeld members x → ⊥) → RunAbove members x d
run_above members zero x free = record {
  end = x + 1;
  past = omega arith;
  upto = omega arith;
  free = λ y from below here. let same : y ≡ x = omega arith in free (subst (IsHeld members) same here);
  stops = inr (omega arith);
}
run_above members (suc d) x free = elim (held_or_not members (x + 1)) [
  | inl held ↦ record {
    end = x + 1;
    past = omega arith;
    upto = omega arith;
    free = λ y from below here. let same : y ≡ x = omega arith in free (subst (IsHeld members) same here);
    stops = inl held;
  }
  | inr not ↦
      let run = run_above members d (x + 1) not in
      let past = run.past in
      let upto = run.upto in
      record {
        end = run.end;
        past = omega arith;
        upto = omega arith;
        free = λ y from below here. elim (cases_lt x y) [
          | inl more ↦ run.free y (omega arith) below here
          | inr not_more ↦ let same : y ≡ x = omega arith in free (subst (IsHeld members) same here)
        ];
        stops = elim run.stops [ inl held ↦ inl held | inr ends ↦ inr (omega arith) ];
      }
]

-- ---- each bit once

module _ (members : List Extent) (bits : ℕ) (rows : List LayoutRow) (numbered : AreNumbered members) (are : AreRows members bits rows) (clean : IsClean rows) where
  fit : Fits members bits
  fit = record {
    apart = λ a b first second order meet.
        let found = overlap_there members a b first second order meet in
        let row = Overlap b.part found.0 found.1 in
        both_ways true (clean row (are.all row found.2)) refl;
    inside = λ a there. elim (cases_lt bits (a.bit + a.width)) [
      | inl past ↦
          let row = Outside a.part in
          absurd (both_ways true (clean row (are.all row (record { member = a; there = there; is = refl; past = past }))) refl)
      | inr not ↦ not
    ];
  }

  -- some row holds the bit
  some_row : (x : ℕ) → x < bits → (row : LayoutRow) × Contains rows row × RowHolds row x
  some_row x less = elim (held_or_not members x) [
    | inl held ↦ (row_of held.member, are.all (row_of held.member) held.there, record { from = held.holds.from; below = held.holds.below })
    | inr free ↦
        let below = run_below members x free in
        let above = run_above members (bits - x - 1) x free in
        let upto = below.upto in
        let past = above.past in
        let all_free : (y : ℕ) → below.bit ≤ y → y < above.end → IsHeld members y → ⊥ = λ y from until here. elim (cases_lt y x) [
          | inl before ↦ below.free y from (omega arith) here
          | inr behind ↦ above.free y behind until here
        ] in
        elim above.stops [
          | inl held ↦
              let width : ℕ = above.end - below.bit in
              let ends : above.end ≡ below.bit + (above.end - below.bit) = omega arith in
              let hole : IsHole members below.bit (above.end - below.bit) = record {
                some = omega arith;
                free = λ y from until. all_free y from (omega arith);
                left = below.left;
                right = subst (IsHeld members) ends held;
              } in
              (Hole below.bit (above.end - below.bit), are.all (Hole below.bit (above.end - below.bit)) (fit, hole), record { from = upto; below = omega arith })
          | inr ends ↦
              let padding : IsPadding members bits below.bit (bits - below.bit) = record {
                some = omega arith;
                ends = omega arith;
                free = λ y from here. elim (cases_lt y bits) [
                  | inl inside ↦ all_free y from (omega arith) here
                  | inr outside ↦ let within = fit.inside here.member here.there in let until = here.holds.below in omega arith
                ];
                left = below.left;
              } in
              (Padding below.bit (bits - below.bit), are.all (Padding below.bit (bits - below.bit)) (fit, padding), record { from = upto; below = omega arith })
        ]
  ]

  held_by : (part bit width x : ℕ) → Contains members (record { part = part; bit = bit; width = width }) → Lies bit width x → IsHeld members x
  held_by part bit width x there lies = record { member = record { part = part; bit = bit; width = width }; there = there; holds = record { from = lies.from; below = lies.below } }

  same_bit : (bit other x : ℕ) → bit ≤ x → other ≤ x → ((y : ℕ) → bit ≤ y → y ≤ x → IsHeld members y → ⊥) → ((y : ℕ) → other ≤ y → y ≤ x → IsHeld members y → ⊥) → ((y : ℕ) → y + 1 ≡ bit → IsHeld members y)
      → ((y : ℕ) → y + 1 ≡ other → IsHeld members y) → bit ≡ other
  same_bit bit other x one two free other_free left other_left = elim (cases_order bit other) [
    | inl same ↦ same
    | inr (inl less) ↦ absurd (free (other - 1) (omega arith) (omega arith) (other_left (other - 1) (omega arith)))
    | inr (inr more) ↦ absurd (other_free (bit - 1) (omega arith) (omega arith) (left (bit - 1) (omega arith)))
  ]

  -- two rows that hold a bit are one
  one_row : (x : ℕ) (r s : LayoutRow) → IsRow members bits r → IsRow members bits s → RowHolds r x → RowHolds s x → r ≡ s
  one_row x (Member p b w) (Member q c v) one two here there =
      let e : Extent = record { part = p; bit = b; width = w } in
      let f : Extent = record { part = q; bit = c; width = v } in
      let holds : Holds e x = record { from = here.from; below = here.below } in
      let other : Holds f x = record { from = there.from; below = there.below } in
      elim (precede_cases e f) [
        | inl before ↦ absurd (fit.apart e f one two before (record { bit = x; first = holds; second = other }))
        | inr (inl behind) ↦ absurd (fit.apart f e two one behind (record { bit = x; first = other; second = holds }))
        | inr (inr same) ↦ ap row_of (same_member members members (names_itself members numbered) e f one two same.2)
      ]
  one_row x (Member p b w) (Hole c v) one two here there = absurd (two.1.free x there.from there.below (held_by p b w x one here))
  one_row x (Member p b w) (Padding c v) one two here there = absurd (two.1.free x there.from (held_by p b w x one here))
  one_row x (Hole b w) (Member q c v) one two here there = absurd (one.1.free x here.from here.below (held_by q c v x two there))
  one_row x (Hole b w) (Hole c v) one two here there =
      let from = here.from in
      let below = here.below in
      let other_from = there.from in
      let other_below = there.below in
      let bit : b ≡ c = same_bit b c x from other_from (λ y lo hi. one.1.free y lo (omega arith)) (λ y lo hi. two.1.free y lo (omega arith)) one.1.left two.1.left in
      let ends : b + w ≡ c + v = elim (cases_order (b + w) (c + v)) [
        | inl same ↦ same
        | inr (inl less) ↦ absurd (two.1.free (b + w) (omega arith) less one.1.right)
        | inr (inr more) ↦ absurd (one.1.free (c + v) (omega arith) more two.1.right)
      ] in
      let width : w ≡ v = omega arith in
      ap (λ (n : ℕ). Hole n w) bit ∙ ap (λ (n : ℕ). Hole c n) width
  one_row x (Hole b w) (Padding c v) one two here there = let below = here.below in let from = there.from in absurd (two.1.free (b + w) (omega arith) one.1.right)
  one_row x (Padding b w) (Member q c v) one two here there = absurd (one.1.free x here.from (held_by q c v x two there))
  one_row x (Padding b w) (Hole c v) one two here there = let below = there.below in let from = here.from in absurd (one.1.free (c + v) (omega arith) two.1.right)
  one_row x (Padding b w) (Padding c v) one two here there =
      let bit : b ≡ c = same_bit b c x here.from there.from (λ y lo hi. one.1.free y lo) (λ y lo hi. two.1.free y lo) one.1.left two.1.left in
      let first = one.1.ends in
      let second = two.1.ends in
      let width : w ≡ v = omega arith in
      ap (λ (n : ℕ). Padding n w) bit ∙ ap (λ (n : ℕ). Padding c n) width
  one_row x (Overlap p q b) s one two here there = absurd here
  one_row x (Outside p) s one two here there = absurd here
  one_row x (Member p b w) (Overlap q c v) one two here there = absurd there
  one_row x (Member p b w) (Outside q) one two here there = absurd there
  one_row x (Hole b w) (Overlap q c v) one two here there = absurd there
  one_row x (Hole b w) (Outside q) one two here there = absurd there
  one_row x (Padding b w) (Overlap q c v) one two here there = absurd there
  one_row x (Padding b w) (Outside q) one two here there = absurd there

  -- one row stands at one place
  one_place : (i j : ℕ) → i < length rows → j < length rows → row_at rows i ≡ row_at rows j → i ≡ j
  one_place i j first second same = elim (cases_order i j) [
    | inl is ↦ is
    | inr (inl less) ↦
        let order : IsBelow (key_of members (row_at rows i)) (key_of members (row_at rows j)) = are.rise i j (Outside 0) less second in
        let P : LayoutRow → Type 0 = λ r. IsBelow (key_of members r) (key_of members (row_at rows j)) in
        absurd (below_not_itself (key_of members (row_at rows j)) (subst P same order))
    | inr (inr more) ↦
        let order : IsBelow (key_of members (row_at rows j)) (key_of members (row_at rows i)) = are.rise j i (Outside 0) more first in
        let P : LayoutRow → Type 0 = λ r. IsBelow (key_of members (row_at rows j)) (key_of members r) in
        absurd (below_not_itself (key_of members (row_at rows j)) (subst P same order))
  ]

  end_inside : (row : LayoutRow) → IsRow members bits row → row_end row ≤ bits
  end_inside (Member part bit width) is = fit.inside (record { part = part; bit = bit; width = width }) is
  end_inside (Hole bit width) is = let within = fit.inside is.1.right.member is.1.right.there in let until = is.1.right.holds.below in omega arith
  end_inside (Padding bit width) is = let ends = is.1.ends in omega arith
  end_inside (Overlap part with bit) is = omega arith
  end_inside (Outside part) is = omega arith

  pub covers : CoverEachBitOnce bits rows
  covers = record {
    once = λ x less.
        let found = some_row x less in
        let inside : found.1.0 < length rows = found.1.1 in
        let is : row_at rows found.1.0 ≡ found.0 = get_or_default rows found.1.0 (Outside 0) found.0 inside ∙ found.1.2 in
        let holds : RowHolds (row_at rows found.1.0) x = let P : LayoutRow → Type 0 = λ r. RowHolds r x in subst P (sym is) found.2 in
        record {
          place = found.1.0;
          inside = inside;
          holds = holds;
          alone = λ k below here.
              let one = are.each (row_at rows k) (Contains-get_or rows k (Outside 0) below) in
              let two = are.each (row_at rows found.1.0) (Contains-get_or rows found.1.0 (Outside 0) inside) in
              one_place k found.1.0 below inside (one_row x (row_at rows k) (row_at rows found.1.0) one two here holds);
        };
    inside = λ row there. end_inside row (are.each row there);
  }

-- ---- the rows are determined

abbrev rises : List Extent → List LayoutRow → Type 0
rises members rows = AllPairs (λ (a b : LayoutRow). IsBelow (key_of members a) (key_of members b)) rows

-- lists in strict order with the same rows are one
same_rows : (members : List Extent) (xs ys : List LayoutRow) → rises members xs → rises members ys → ((r : LayoutRow) → Contains xs r → Contains ys r) → ((r : LayoutRow) → Contains ys r → Contains xs r) → xs ≡ ys
same_rows members [] [] first second to from = refl
same_rows members [] (y ∷ ys) first second to from = absurd (in_none y (from y (at_front y ys)))
same_rows members (x ∷ xs) [] first second to from = absurd (in_none x (to x (at_front x xs)))
same_rows members (x ∷ xs) (y ∷ ys) first second to from =
    let R : LayoutRow → LayoutRow → Type 0 = λ a b. IsBelow (key_of members a) (key_of members b) in
    let head : x ≡ y = elim (in_front y ys x (to x (at_front x xs))) [
      | inl same ↦ sym same
      | inr behind ↦ elim (in_front x xs y (from y (at_front y ys))) [
        | inl same ↦ same
        | inr past ↦ absurd (below_not_both (key_of members x) (key_of members y) (pairs_head R x xs first y past) (pairs_head R y ys second x behind))
      ]
    ] in
    let not_x : Contains xs x → ⊥ = λ there. below_not_itself (key_of members x) (pairs_head R x xs first x there) in
    let not_y : Contains ys y → ⊥ = λ there. below_not_itself (key_of members y) (pairs_head R y ys second y there) in
    let rest : xs ≡ ys = same_rows members xs ys (pairs_tail R x xs first) (pairs_tail R y ys second)
    (λ r there. elim (in_front y ys r (to r (in_rest x xs r there))) [ inl same ↦ absurd (not_x (subst (Contains xs) (sym same ∙ sym head) there)) | inr rest ↦ rest ])
    (λ r there. elim (in_front x xs r (from r (in_rest y ys r there))) [ inl same ↦ absurd (not_y (subst (Contains ys) (sym same ∙ head) there)) | inr rest ↦ rest ]) in
    ap (λ (r : LayoutRow). r ∷ xs) head ∙ ap (λ (l : List LayoutRow). y ∷ l) rest

pub determined : RowsAreDetermined
determined members bits first second one two =
    same_rows members first second one.rise two.rise (λ r there. two.all r (one.each r there)) (λ r there. one.all r (two.each r there))
