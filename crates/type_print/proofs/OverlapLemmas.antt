-- The sweep for overlaps, and the members that end past the size.
use Rattle.std.proofs.Common.{◌≡◌, ◌<◌, ◌≤◌, ◌+◌, ℕ, Bool, true, false, List, [], ◌∷◌, ◌++◌, length, ◌⊎◌, inl, inr, refl, sym, ◌∙◌, ap, subst, arith}
use Rattle.std.specs.Prelude.{◌==◌, ◌||◌, cond}
use Rattle.std.specs.List.{Contains}
use Rattle.std.proofs.lemmas.Bool.{cases_lt, cases_order, lt-ltb, le-ltb, eq-eqb, ne_eqb}
use Rattle.std.proofs.lemmas.List.{get_or_default}
use Rattle.std.proofs.lemmas.List.Elements.{Contains-get_or, Contains-append_left, Contains-append_right, Contains-append_cases}
use Rattle.abi_base.proofs.lemmas.Contained.{in_none, at_front, in_one}
use Rattle.type_print.specs.declared.extent.Extent.{Extent}
use Rattle.type_print.specs.declared.row.LayoutRow.{LayoutRow}
use Rattle.type_print.specs.declared.row.LayoutRow.TheVariants.{Member, Hole, Padding, Overlap, Outside}
use Rattle.type_print.specs.Members.{end_of, Holds, Meet, IsBelow, member_key, Precedes, AreInOrder, no_member, member_at, NamesAll}
use Rattle.type_print.specs.Rows.{IsOverlap, IsOutside, IsOverlapRow, IsOutsideRow, key_of, AreExactly}
use Rattle.type_print.specs.Sweeps.{overlap_rows, outside_rows}
use Rattle.type_print.proofs.ListLemmas.{pairs_none, pairs_one, pairs_append}
use Rattle.type_print.proofs.OrderLemmas.{below_not_both, below_not_itself, precede_in, same_member}

abbrev below_key : List Extent → LayoutRow → LayoutRow → Type 0
below_key all a b = IsBelow (key_of all a) (key_of all b)

-- the position of a member among those in order that comes before k
pub record StandsBelow (sorted : List Extent) (k part : ℕ) : Type 0 where
  pub place : ℕ
  pub below : place < k
  pub is : part ≡ (member_at sorted place).part

abbrev pub IsOverlapUpto : List Extent → ℕ → LayoutRow → Type 0
IsOverlapUpto sorted k (Overlap part with bit) = IsOverlap sorted part with bit × StandsBelow sorted k part
IsOverlapUpto sorted k other = ⊥

abbrev pub IsOutsideUpto : List Extent → ℕ → ℕ → LayoutRow → Type 0
IsOutsideUpto sorted bits k (Outside part) = IsOutside sorted bits part × StandsBelow sorted k part
IsOutsideUpto sorted bits k other = ⊥

-- what the sweep for overlaps keeps
pub record Overlapped (sorted : List Extent) (k first : ℕ) : Type 0 where
  pub reach : first ≤ k
  pub dead : (i j : ℕ) → i < first → k ≤ j → j < length sorted → end_of (member_at sorted i) ≤ (member_at sorted j).bit

pub stands_more : (sorted : List Extent) (k part : ℕ) → StandsBelow sorted k part → StandsBelow sorted (k + 1) part
stands_more sorted k part stands = let below = stands.below in record { place = stands.place; below = omega arith; is = stands.is }

module _ (sorted : List Extent) (order : AreInOrder sorted) where
  stand : (i j : ℕ) → i < j → j < length sorted → Precedes (member_at sorted i) (member_at sorted j)
  stand i j less inside = order i j no_member less inside

  pub there_at : (i : ℕ) → i < length sorted → Contains sorted (member_at sorted i)
  there_at i inside = Contains-get_or sorted i no_member inside

  place_is : (e : Extent) (there : Contains sorted e) → member_at sorted there.0 ≡ e
  place_is e there = let inside : there.0 < length sorted = there.1 in get_or_default sorted there.0 no_member e inside ∙ there.2

  -- a member that precedes another stands before it
  stands_before : (a : Extent) (there : Contains sorted a) (k : ℕ) → k < length sorted → Precedes a (member_at sorted k) → there.0 < k
  stands_before a there k inside before =
      let here : Precedes (member_at sorted there.0) (member_at sorted k) = let P : Extent → Type 0 = λ m. Precedes m (member_at sorted k) in subst P (sym (place_is a there)) before in
      let below : there.0 < length sorted = there.1 in
      elim (cases_order there.0 k) [
        | inl same ↦
            let there_too : Precedes (member_at sorted k) (member_at sorted k) = let P : ℕ → Type 0 = λ i. Precedes (member_at sorted i) (member_at sorted k) in subst P same here in
            absurd (below_not_itself (member_key 0 (member_at sorted k)) there_too)
        | inr (inl less) ↦ less
        | inr (inr more) ↦ absurd (below_not_both (member_key 0 (member_at sorted there.0)) (member_key 0 (member_at sorted k)) here (stand k there.0 more below))
      ]

  pub overlapped_start : Overlapped sorted 0 0
  overlapped_start = record { reach = omega arith; dead = λ i j less from inside. absurd (omega arith) }

  module _ (k old first : ℕ) (inside : k < length sorted) (kept : Overlapped sorted k old) (reach : first ≤ k)
      (passed : (j : ℕ) → old ≤ j → j < first → end_of (member_at sorted j) ≤ (member_at sorted k).bit) (past : first < k → (member_at sorted k).bit < end_of (member_at sorted first)) where
    dead_here : (i : ℕ) → i < first → end_of (member_at sorted i) ≤ (member_at sorted k).bit
    dead_here i less = elim (cases_lt i old) [ inl before ↦ kept.dead i k before (omega arith) inside | inr behind ↦ passed i behind less ]

    pub overlapped_more : Overlapped sorted (k + 1) first
    overlapped_more = record {
      reach = omega arith;
      dead = λ i j less from below.
          let here : end_of (member_at sorted i) ≤ (member_at sorted k).bit = dead_here i less in
          let rise : (member_at sorted k).bit ≤ (member_at sorted j).bit = (stand k j (omega arith) below).bits refl in
          omega arith;
    }

    abbrev here : Extent
    here = member_at sorted k

    abbrev other : Extent
    other = member_at sorted first

    overlap_here : first < k → 0 < here.width → IsOverlap sorted here.part other.part here.bit
    overlap_here less wide =
        let before : Precedes other here = stand first k less inside in
        let from : other.bit ≤ here.bit = before.bits refl in
        let until : here.bit < other.bit + other.width = past less in
        record {
          member = here;
          there = there_at k inside;
          is = refl;
          other = other;
          other_there = there_at first (omega arith);
          other_is = refl;
          earlier = before;
          holds = record { from = omega arith; below = omega arith };
          other_holds = record { from = from; below = until };
          first_bit = λ x one two. one.from;
          first = λ third there third_before meet.
              let stands : there.0 < first = stands_before third there first (omega arith) third_before in
              let ended : end_of (member_at sorted there.0) ≤ here.bit = dead_here there.0 stands in
              let ends : third.bit + third.width ≤ here.bit = let P : Extent → Type 0 = λ m. end_of m ≤ here.bit in subst P (place_is third there) ended in
              let below = meet.first.below in
              let above = meet.second.from in
              omega arith;
        }

    -- an overlap of the member here is the one that the sweep finds
    overlap_is : (all : List Extent) → NamesAll all sorted → (part with bit : ℕ) → IsOverlap sorted part with bit → part ≡ here.part → (first < k) × (0 < here.width) × (other.part ≡ with) × (here.bit ≡ bit)
    overlap_is all names part with bit is same =
        let mine : is.member ≡ here = same_member all sorted names is.member here is.there (there_at k inside) (sym is.is ∙ same) in
        let before : Precedes is.other here = let P : Extent → Type 0 = λ m. Precedes is.other m in subst P mine is.earlier in
        let stands : is.other_there.0 < k = stands_before is.other is.other_there k inside before in
        let holds : Holds here bit = let P : Extent → Type 0 = λ m. Holds m bit in subst P mine is.holds in
        let from : here.bit ≤ bit = holds.from in
        let until : bit < here.bit + here.width = holds.below in
        let wide : 0 < here.width = omega arith in
        let begins : is.other.bit ≤ here.bit = before.bits refl in
        let ends : bit < is.other.bit + is.other.width = is.other_holds.below in
        let least : bit ≤ here.bit =
        is.first_bit here.bit (let P : Extent → Type 0 = λ m. Holds m here.bit in subst P (sym mine) (record { from = omega arith; below = omega arith })) (record { from = begins; below = omega arith }) in
        let ends_past : here.bit < end_of is.other = omega arith in
        let alive : here.bit < end_of (member_at sorted is.other_there.0) = let P : Extent → Type 0 = λ m. here.bit < end_of m in subst P (sym (place_is is.other is.other_there)) ends_past in
        let le : first ≤ is.other_there.0 = elim (cases_lt is.other_there.0 first) [
          | inl dead ↦ let ended : end_of (member_at sorted is.other_there.0) ≤ here.bit = dead_here is.other_there.0 dead in absurd (omega arith)
          | inr not ↦ not
        ] in
        let less : first < k = omega arith in
        let is_first : first ≡ is.other_there.0 = elim (cases_lt first is.other_there.0) [
          | inl earlier ↦
              let below : is.other_there.0 < length sorted = is.other_there.1 in
              let precedes : Precedes other is.other = let P : Extent → Type 0 = λ m. Precedes other m in subst P (place_is is.other is.other_there) (stand first is.other_there.0 earlier below) in
              let rise : other.bit ≤ here.bit = (stand first k less inside).bits refl in
              let reaches : here.bit < other.bit + other.width = past less in
              let meet : Meet other is.member = let P : Extent → Type 0 = λ m. Meet other m in
              subst P (sym mine) (record { bit = here.bit; first = record { from = rise; below = reaches }; second = record { from = omega arith; below = omega arith } }) in
              absurd (is.first other (there_at first (omega arith)) precedes meet)
          | inr not ↦ omega arith
        ] in
        let found : other ≡ is.other = ap (member_at sorted) is_first ∙ place_is is.other is.other_there in
        (less, wide, ap (λ (m : Extent). m.part) found ∙ sym is.other_is, omega arith)

    abbrev new_row : LayoutRow
    new_row = Overlap here.part other.part here.bit

    -- the rows that the step adds
    added : ((first < k) × (0 < here.width) × (overlap_rows sorted k first ≡ new_row ∷ [])) ⊎ (((first < k) × (0 < here.width) → ⊥) × (overlap_rows sorted k first ≡ []))
    added = elim (cases_lt first k) [
      | inl less ↦ elim (cases_lt 0 here.width) [
        | inl wide ↦
            let one : (first == k) ≡ false = ne_eqb first k (λ e. omega arith) in
            let two : (here.width == 0) ≡ false = ne_eqb here.width 0 (λ e. omega arith) in
            inl (less, wide, ap (λ (b : Bool). cond (b || (here.width == 0)) [] (new_row ∷ [])) one ∙ ap (λ (b : Bool). cond (false || b) [] (new_row ∷ [])) two)
        | inr none ↦
            let one : (first == k) ≡ false = ne_eqb first k (λ e. omega arith) in
            let two : (here.width == 0) ≡ true = eq-eqb here.width 0 (omega arith) in
            inr ((λ both. let wide : 0 < here.width = both.1 in omega arith), ap (λ (b : Bool). cond (b || (here.width == 0)) [] (new_row ∷ [])) one ∙ ap (λ (b : Bool). cond (false || b) [] (new_row ∷ [])) two)
      ]
      | inr not ↦
          let one : (first == k) ≡ true = eq-eqb first k (omega arith) in
          inr ((λ both. let less : first < k = both.0 in omega arith), ap (λ (b : Bool). cond (b || (here.width == 0)) [] (new_row ∷ [])) one)
    ]

    module _ (all : List Extent) (names : NamesAll all sorted) (rows : List LayoutRow) (is : AreExactly (IsOverlapUpto sorted k) (key_of all) rows) where
      upto_more : (row : LayoutRow) → IsOverlapUpto sorted k row → IsOverlapUpto sorted (k + 1) row
      upto_more (Overlap part with bit) so = (so.0, stands_more sorted k part so.1)
      upto_more (Member part bit width) so = so
      upto_more (Hole bit width) so = so
      upto_more (Padding bit width) so = so
      upto_more (Outside part) so = so

      -- a row up to here is one before, or the one here
      upto_cases : (row : LayoutRow) → IsOverlapUpto sorted (k + 1) row → IsOverlapUpto sorted k row ⊎ ((first < k) × (0 < here.width) × (new_row ≡ row))
      upto_cases (Overlap part with bit) so =
          let below = so.1.below in
          elim (cases_lt so.1.place k) [
            | inl less ↦ inl (so.0, record { place = so.1.place; below = less; is = so.1.is })
            | inr not ↦
                let place : so.1.place ≡ k = omega arith in
                let same : part ≡ here.part = so.1.is ∙ ap (λ (i : ℕ). (member_at sorted i).part) place in
                let found = overlap_is all names part with bit so.0 same in
                inr (found.0, found.1, ap (λ (p : ℕ). Overlap p other.part here.bit) (sym same) ∙ ap (λ (w : ℕ). Overlap part w here.bit) found.2 ∙ ap (λ (b : ℕ). Overlap part with b) found.3)
          ]
      upto_cases (Member part bit width) so = absurd so
      upto_cases (Hole bit width) so = absurd so
      upto_cases (Padding bit width) so = absurd so
      upto_cases (Outside part) so = absurd so

      before_here : (row : LayoutRow) → IsOverlapUpto sorted k row → IsBelow (key_of all row) (key_of all new_row)
      before_here (Overlap part with bit) so =
          let below = so.1.below in
          let mine : member_at all part ≡ member_at sorted so.1.place = ap (member_at all) so.1.is ∙ names (member_at sorted so.1.place) (there_at so.1.place (omega arith)) in
          let yours : member_at all here.part ≡ here = names here (there_at k inside) in
          let given = precede_in 1 (member_at sorted so.1.place) here (stand so.1.place k so.1.below inside) in
          let P : Extent → Type 0 = λ m. IsBelow (member_key 1 m) (member_key 1 here) in
          let Q : Extent → Type 0 = λ m. IsBelow (member_key 1 (member_at all part)) (member_key 1 m) in
          subst Q (sym yours) (subst P (sym mine) given)
      before_here (Member part bit width) so = absurd so
      before_here (Hole bit width) so = absurd so
      before_here (Padding bit width) so = absurd so
      before_here (Outside part) so = absurd so

      pub overlaps_more : (next : List LayoutRow) → next ≡ rows ++ overlap_rows sorted k first → AreExactly (IsOverlapUpto sorted (k + 1)) (key_of all) next
      overlaps_more next grown = elim added [
        | inl new ↦
            let given : rows ++ new_row ∷ [] ≡ next = ap (λ (l : List LayoutRow). rows ++ l) (sym new.2) ∙ sym grown in
            let so : IsOverlapUpto sorted (k + 1) new_row = (overlap_here new.0 new.1, record { place = k; below = omega arith; is = refl }) in
            subst (AreExactly (IsOverlapUpto sorted (k + 1)) (key_of all)) given (record {
              each = λ row there. elim (Contains-append_cases rows (new_row ∷ []) row there) [
                | inl old ↦ upto_more row (is.each row old)
                | inr one ↦ subst (IsOverlapUpto sorted (k + 1)) (in_one new_row row one) so
              ];
              all = λ row holds. elim (upto_cases row holds) [
                | inl old ↦ Contains-append_left rows (new_row ∷ []) row (is.all row old)
                | inr found ↦ Contains-append_right rows (new_row ∷ []) row (subst (Contains (new_row ∷ [])) found.2 (at_front new_row []))
              ];
              rise = pairs_append (below_key all) rows (new_row ∷ []) is.rise (pairs_one (below_key all) new_row)
                  (λ a b one two. subst (below_key all a) (in_one new_row b two) (before_here a (is.each a one)));
            })
        | inr none ↦
            let given : next ≡ rows ++ [] = grown ∙ ap (λ (l : List LayoutRow). rows ++ l) none.1 in
            subst (AreExactly (IsOverlapUpto sorted (k + 1)) (key_of all)) (sym given) (record {
              each = λ row there. elim (Contains-append_cases rows [] row there) [ inl old ↦ upto_more row (is.each row old) | inr one ↦ absurd (in_none row one) ];
              all = λ row holds. elim (upto_cases row holds) [
                | inl old ↦ Contains-append_left rows [] row (is.all row old)
                | inr found ↦ absurd (none.0 (found.0, found.1))
              ];
              rise = pairs_append (below_key all) rows [] is.rise (pairs_none (below_key all)) (λ a b one two. absurd (in_none b two));
            })
      ]

  pub overlaps_start : (all : List Extent) → AreExactly (IsOverlapUpto sorted 0) (key_of all) []
  overlaps_start all = record { each = λ row there. absurd (in_none row there); all = none; rise = pairs_none (below_key all) } where
    none : (row : LayoutRow) → IsOverlapUpto sorted 0 row → Contains [] row
    none (Overlap part with bit) so = let below = so.1.below in absurd (omega arith)
    none (Member part bit width) so = absurd so
    none (Hole bit width) so = absurd so
    none (Padding bit width) so = absurd so
    none (Outside part) so = absurd so

  pub overlaps_end : (all : List Extent) (rows : List LayoutRow) → AreExactly (IsOverlapUpto sorted (length sorted)) (key_of all) rows → AreExactly (IsOverlapRow sorted) (key_of all) rows
  overlaps_end all rows is = record { each = λ row there. down row (is.each row there); all = λ row so. is.all row (up row so); rise = is.rise } where
    down : (row : LayoutRow) → IsOverlapUpto sorted (length sorted) row → IsOverlapRow sorted row
    down (Overlap part with bit) so = so.0
    down (Member part bit width) so = so
    down (Hole bit width) so = so
    down (Padding bit width) so = so
    down (Outside part) so = so

    up : (row : LayoutRow) → IsOverlapRow sorted row → IsOverlapUpto sorted (length sorted) row
    up (Overlap part with bit) so = (so, record { place = so.there.0; below = so.there.1; is = so.is ∙ ap (λ (m : Extent). m.part) (sym (place_is so.member so.there)) })
    up (Member part bit width) so = so
    up (Hole bit width) so = so
    up (Padding bit width) so = so
    up (Outside part) so = so

  -- ---- members that end past the size

  pub outsides_start : (all : List Extent) (bits : ℕ) → AreExactly (IsOutsideUpto sorted bits 0) (key_of all) []
  outsides_start all bits = record { each = λ row there. absurd (in_none row there); all = none; rise = pairs_none (below_key all) } where
    none : (row : LayoutRow) → IsOutsideUpto sorted bits 0 row → Contains [] row
    none (Outside part) so = let below = so.1.below in absurd (omega arith)
    none (Member part bit width) so = absurd so
    none (Hole bit width) so = absurd so
    none (Padding bit width) so = absurd so
    none (Overlap part with bit) so = absurd so

  pub outsides_end : (all : List Extent) (bits : ℕ) (rows : List LayoutRow) → AreExactly (IsOutsideUpto sorted bits (length sorted)) (key_of all) rows → AreExactly (IsOutsideRow sorted bits) (key_of all) rows
  outsides_end all bits rows is = record { each = λ row there. down row (is.each row there); all = λ row so. is.all row (up row so); rise = is.rise } where
    down : (row : LayoutRow) → IsOutsideUpto sorted bits (length sorted) row → IsOutsideRow sorted bits row
    down (Outside part) so = so.0
    down (Member part bit width) so = so
    down (Hole bit width) so = so
    down (Padding bit width) so = so
    down (Overlap part with bit) so = so

    up : (row : LayoutRow) → IsOutsideRow sorted bits row → IsOutsideUpto sorted bits (length sorted) row
    up (Outside part) so = (so, record { place = so.there.0; below = so.there.1; is = so.is ∙ ap (λ (m : Extent). m.part) (sym (place_is so.member so.there)) })
    up (Member part bit width) so = so
    up (Hole bit width) so = so
    up (Padding bit width) so = so
    up (Overlap part with bit) so = so

  module _ (all : List Extent) (names : NamesAll all sorted) (bits k : ℕ) (inside : k < length sorted) (rows : List LayoutRow) (is : AreExactly (IsOutsideUpto sorted bits k) (key_of all) rows) where
    abbrev last : Extent
    last = member_at sorted k

    abbrev last_row : LayoutRow
    last_row = Outside last.part

    out_more : (row : LayoutRow) → IsOutsideUpto sorted bits k row → IsOutsideUpto sorted bits (k + 1) row
    out_more (Outside part) so = (so.0, stands_more sorted k part so.1)
    out_more (Member part bit width) so = so
    out_more (Hole bit width) so = so
    out_more (Padding bit width) so = so
    out_more (Overlap part with bit) so = so

    out_cases : (row : LayoutRow) → IsOutsideUpto sorted bits (k + 1) row → IsOutsideUpto sorted bits k row ⊎ ((bits < end_of last) × (last_row ≡ row))
    out_cases (Outside part) so =
        let below = so.1.below in
        elim (cases_lt so.1.place k) [
          | inl less ↦ inl (so.0, record { place = so.1.place; below = less; is = so.1.is })
          | inr not ↦
              let place : so.1.place ≡ k = omega arith in
              let same : part ≡ last.part = so.1.is ∙ ap (λ (i : ℕ). (member_at sorted i).part) place in
              let mine : so.0.member ≡ last = same_member all sorted names so.0.member last so.0.there (there_at k inside) (sym so.0.is ∙ same) in
              let past : bits < end_of last = let P : Extent → Type 0 = λ m. bits < end_of m in subst P mine so.0.past in
              inr (past, ap (λ (p : ℕ). Outside p) (sym same))
        ]
    out_cases (Member part bit width) so = absurd so
    out_cases (Hole bit width) so = absurd so
    out_cases (Padding bit width) so = absurd so
    out_cases (Overlap part with bit) so = absurd so

    out_before : (row : LayoutRow) → IsOutsideUpto sorted bits k row → IsBelow (key_of all row) (key_of all last_row)
    out_before (Outside part) so =
        let below = so.1.below in
        let mine : member_at all part ≡ member_at sorted so.1.place = ap (member_at all) so.1.is ∙ names (member_at sorted so.1.place) (there_at so.1.place (omega arith)) in
        let yours : member_at all last.part ≡ last = names last (there_at k inside) in
        let given = precede_in 2 (member_at sorted so.1.place) last (stand so.1.place k so.1.below inside) in
        let P : Extent → Type 0 = λ m. IsBelow (member_key 2 m) (member_key 2 last) in
        let Q : Extent → Type 0 = λ m. IsBelow (member_key 2 (member_at all part)) (member_key 2 m) in
        subst Q (sym yours) (subst P (sym mine) given)
    out_before (Member part bit width) so = absurd so
    out_before (Hole bit width) so = absurd so
    out_before (Padding bit width) so = absurd so
    out_before (Overlap part with bit) so = absurd so

    pub outsides_more : (next : List LayoutRow) → next ≡ rows ++ outside_rows bits last → AreExactly (IsOutsideUpto sorted bits (k + 1)) (key_of all) next
    outsides_more next grown = elim (cases_lt bits (end_of last)) [
      | inl past ↦
          let rows_are : outside_rows bits last ≡ last_row ∷ [] = ap (λ (b : Bool). cond b (last_row ∷ []) []) (lt-ltb bits (end_of last) past) in
          let given : rows ++ last_row ∷ [] ≡ next = ap (λ (l : List LayoutRow). rows ++ l) (sym rows_are) ∙ sym grown in
          let so : IsOutsideUpto sorted bits (k + 1) last_row = (record { member = last; there = there_at k inside; is = refl; past = past }, record { place = k; below = omega arith; is = refl }) in
          subst (AreExactly (IsOutsideUpto sorted bits (k + 1)) (key_of all)) given (record {
            each = λ row there. elim (Contains-append_cases rows (last_row ∷ []) row there) [
              | inl old ↦ out_more row (is.each row old)
              | inr one ↦ subst (IsOutsideUpto sorted bits (k + 1)) (in_one last_row row one) so
            ];
            all = λ row holds. elim (out_cases row holds) [
              | inl old ↦ Contains-append_left rows (last_row ∷ []) row (is.all row old)
              | inr found ↦ Contains-append_right rows (last_row ∷ []) row (subst (Contains (last_row ∷ [])) found.1 (at_front last_row []))
            ];
            rise = pairs_append (below_key all) rows (last_row ∷ []) is.rise (pairs_one (below_key all) last_row)
                (λ a b one two. subst (below_key all a) (in_one last_row b two) (out_before a (is.each a one)));
          })
      | inr not ↦
          let rows_are : outside_rows bits last ≡ [] = ap (λ (b : Bool). cond b (last_row ∷ []) []) (le-ltb bits (end_of last) not) in
          let given : next ≡ rows ++ [] = grown ∙ ap (λ (l : List LayoutRow). rows ++ l) rows_are in
          subst (AreExactly (IsOutsideUpto sorted bits (k + 1)) (key_of all)) (sym given) (record {
            each = λ row there. elim (Contains-append_cases rows [] row there) [ inl old ↦ out_more row (is.each row old) | inr one ↦ absurd (in_none row one) ];
            all = λ row holds. elim (out_cases row holds) [
              | inl old ↦ Contains-append_left rows [] row (is.all row old)
              | inr found ↦ let past : bits < end_of last = found.0 in absurd (omega arith)
            ];
            rise = pairs_append (below_key all) rows [] is.rise (pairs_none (below_key all)) (λ a b one two. absurd (in_none b two));
          })
    ]
