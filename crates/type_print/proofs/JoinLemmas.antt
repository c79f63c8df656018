-- The rows of members in order are those of the members; and where members meet, an overlap is there.
use Rattle.std.proofs.Common.{◌≡◌, ◌<◌, ◌≤◌, ◌+◌, ℕ, Bool, true, false, List, [], ◌∷◌, ◌++◌, length, map, min, max, ◌⊎◌, inl, inr, refl, sym, ◌∙◌, ap, subst, arith}
use Rattle.std.specs.Prelude.{◌==◌, ◌&&◌}
use Rattle.std.specs.List.{Contains}
use Rattle.std.specs.List.Sorted.{IsPermutation}
use Rattle.std.proofs.lemmas.Bool.{cases_lt, and_parts, and_cases, eqb-true, eqb-false}
use Rattle.std.proofs.lemmas.List.{nil_from_length}
use Rattle.std.proofs.lemmas.List.Elements.{Contains-append_left, Contains-append_right, Contains-append_cases}
use Rattle.abi_base.proofs.lemmas.Contained.{in_none, in_front, at_front, in_rest, in_map, in_map_cases}
use Rattle.type_print.specs.declared.extent.Extent.{Extent}
use Rattle.type_print.specs.declared.row.LayoutRow.{LayoutRow}
use Rattle.type_print.specs.declared.row.LayoutRow.TheVariants.{Member, Hole, Padding, Overlap, Outside}
use Rattle.type_print.specs.Members.{end_of, IsHeld, Meet, IsBelow, rank_of, member_key, Precedes, AreInOrder, AreNumbered, NamesAll, row_of}
use Rattle.type_print.specs.Rows.{Fits, IsHole, IsPadding, IsOverlap, IsOutside, IsOverlapRow, IsOutsideRow, IsFittingRow, IsRow, key_of, AreExactly, AreRows}
use Rattle.type_print.proofs.ListLemmas.{pairs_append, pairs_map}
use Rattle.type_print.proofs.OrderLemmas.{below_not_both, below_not_itself, below_trans, section_below, precede_cases, back, forth, names_itself}

-- ---- the first member that meets another

pub record FirstMeeting (b : Extent) (members : List Extent) : Type 0 where
  pub member : Extent
  pub there : Contains members member
  pub meets : Meet member b
  pub first : (t : Extent) → Contains members t → Precedes t member → Meet t b → ⊥

meet_cases : (t b : Extent) → Meet t b ⊎ (Meet t b → ⊥)
meet_cases t b = elim (cases_lt (max t.bit b.bit) (min (end_of t) (end_of b))) [
  | inl less ↦ inl (record { bit = max t.bit b.bit; first = record { from = omega arith; below = omega arith }; second = record { from = omega arith; below = omega arith } })
  | inr not ↦ inr (λ meet.
      let one = meet.first.from in
      let two = meet.first.below in
      let three = meet.second.from in
      let four = meet.second.below in
      omega arith)
]

not_itself : (a b : Extent) → a ≡ b → Precedes b a → ⊥
not_itself a b same before = let P : Extent → Type 0 = λ m. Precedes m a in below_not_itself (member_key 0 a) (subst P (sym same) before)

first_meeting : (b : Extent) (members : List Extent) → ((t : Extent) → Contains members t → Meet t b → ⊥) ⊎ FirstMeeting b members
first_meeting b [] = inl (λ t there meet. in_none t there)
first_meeting b (x ∷ xs) = elim (first_meeting b xs) [
  | inl none ↦ elim (meet_cases x b) [
    | inl joint ↦ inr (record {
      member = x;
      there = at_front x xs;
      meets = joint;
      first = λ t there before meet. elim (in_front x xs t there) [ inl same ↦ not_itself x t same before | inr rest ↦ none t rest meet ];
    })
    | inr apart ↦ inl (λ t there meet. elim (in_front x xs t there) [ inl same ↦ apart (let P : Extent → Type 0 = λ m. Meet m b in subst P (sym same) meet) | inr rest ↦ none t rest meet ])
  ]
  | inr found ↦
      let kept : ((Precedes x found.member → Meet x b → ⊥)) → FirstMeeting b (x ∷ xs) = λ never. record {
        member = found.member;
        there = in_rest x xs found.member found.there;
        meets = found.meets;
        first = λ t there before meet. elim (in_front x xs t there) [
          | inl same ↦ never (let P : Extent → Type 0 = λ m. Precedes m found.member in subst P (sym same) before) (let P : Extent → Type 0 = λ m. Meet m b in subst P (sym same) meet)
          | inr rest ↦ found.first t rest before meet
        ];
      } in
      elim (meet_cases x b) [
        | inl joint ↦ elim (precede_cases x found.member) [
          | inl before ↦ inr (record {
            member = x;
            there = at_front x xs;
            meets = joint;
            first = λ t there earlier meet. elim (in_front x xs t there) [
              | inl same ↦ not_itself x t same earlier
              | inr rest ↦ found.first t rest (below_trans (member_key 0 t) (member_key 0 x) (member_key 0 found.member) earlier before) meet
            ];
          })
          | inr (inl behind) ↦ inr (kept (λ before meet. below_not_both (member_key 0 x) (member_key 0 found.member) before behind))
          | inr (inr same) ↦ inr (kept (λ before meet. let less : x.part < found.member.part = before.parts refl same.0 same.1 in let part = same.2 in omega arith))
        ]
        | inr apart ↦ inr (kept (λ before meet. apart meet))
      ]
]

-- where a member shares bits with an earlier one, an overlap says so
pub overlap_there : (members : List Extent) (a b : Extent) → Contains members a → Contains members b → Precedes a b → Meet a b → (with : ℕ) × (bit : ℕ) × IsOverlap members b.part with bit
overlap_there members a b first second order meet = elim (first_meeting b members) [
  | inl none ↦ absurd (none a first meet)
  | inr found ↦
      let m = found.member in
      let from = meet.second.from in
      let below = meet.second.below in
      let itself : Meet b b = record { bit = meet.bit; first = meet.second; second = meet.second } in
      let earlier : Precedes m b = elim (precede_cases m b) [
        | inl before ↦ before
        | inr (inl behind) ↦ absurd (found.first b second behind itself)
        | inr (inr same) ↦
            let one = same.0 in
            let two = same.1 in
            let three = same.2 in
            let le : a.bit ≤ b.bit = order.bits refl in
            let before : Precedes a m = record {
              sections = omega arith;
              bits = λ s. omega arith;
              ranks = λ s p. let rank : rank_of a.width ≤ rank_of b.width = order.ranks refl (p ∙ same.0) in omega arith;
              parts = λ s p r. let part : a.part < b.part = order.parts refl (p ∙ same.0) (r ∙ same.1) in omega arith;
            } in
            absurd (found.first a first before meet)
      ] in
      let begins : m.bit ≤ b.bit = earlier.bits refl in
      let reaches : b.bit < m.bit + m.width = let one = found.meets.first.below in let two = found.meets.second.from in omega arith in (
        m.part,
        b.bit,
        record {
          member = b;
          there = second;
          is = refl;
          other = m;
          other_there = found.there;
          other_is = refl;
          earlier = earlier;
          holds = record { from = omega arith; below = omega arith };
          other_holds = record { from = begins; below = reaches };
          first_bit = λ x one two. one.from;
          first = found.first;
        },
      )
]

-- an overlap says that members do not fit, and so does a member that ends outside
pub overlap_clashes : (members : List Extent) (bits part with bit : ℕ) → IsOverlap members part with bit → Fits members bits → ⊥
overlap_clashes members bits part with bit is fits =
    fits.apart is.other is.member is.other_there is.there is.earlier (record { bit = bit; first = is.other_holds; second = is.holds })

pub outside_clashes : (members : List Extent) (bits part : ℕ) → IsOutside members bits part → Fits members bits → ⊥
outside_clashes members bits part is fits = let inside = fits.inside is.member is.there in let past = is.past in omega arith

-- members without overlaps of which none ends outside fit
pub fits_from : (all sorted : List Extent) (bits : ℕ) → AreExactly (IsOverlapRow sorted) (key_of all) [] → AreExactly (IsOutsideRow sorted bits) (key_of all) [] → Fits sorted bits
fits_from all sorted bits overlaps outsides = record {
  apart = λ a b first second order meet.
      let found = overlap_there sorted a b first second order meet in
      in_none (Overlap b.part found.0 found.1) (overlaps.all (Overlap b.part found.0 found.1) found.2);
  inside = λ a there. elim (cases_lt bits (a.bit + a.width)) [
    | inl past ↦ absurd (in_none (Outside a.part) (outsides.all (Outside a.part) (record { member = a; there = there; is = refl; past = past })))
    | inr not ↦ not
  ];
}

pub fits_when_none : (all sorted : List Extent) (bits : ℕ) (overlaps outsides one two : List LayoutRow) (b : Bool) → one ≡ overlaps → two ≡ outsides → b ≡ ((length one == 0) && (length two == 0)) → b ≡ true
    → AreExactly (IsOverlapRow sorted) (key_of all) overlaps → AreExactly (IsOutsideRow sorted bits) (key_of all) outsides → Fits sorted bits
fits_when_none all sorted bits overlaps outsides one two b first second is true_is over out =
    let both = and_parts (length one == 0) (length two == 0) (sym is ∙ true_is) in
    let none : overlaps ≡ [] = sym first ∙ nil_from_length one (eqb-true (length one) 0 both.0) in
    let nothing : outsides ≡ [] = sym second ∙ nil_from_length two (eqb-true (length two) 0 both.1) in
    fits_from all sorted bits (subst (AreExactly (IsOverlapRow sorted) (key_of all)) none over) (subst (AreExactly (IsOutsideRow sorted bits) (key_of all)) nothing out)

some_there : (one rows : List LayoutRow) → one ≡ rows → (length one == 0) ≡ false → 0 < length rows
some_there one rows same not = elim (cases_lt 0 (length rows)) [
  | inl some ↦ some
  | inr none ↦ let long : length one ≡ length rows = ap length same in absurd (eqb-false (length one) 0 not (omega arith))
]

-- ---- the same of two lists of the same members

module _ (xs ys : List Extent) (to : (e : Extent) → Contains xs e → Contains ys e) (from : (e : Extent) → Contains ys e → Contains xs e) where
  pub held_to : (x : ℕ) → IsHeld xs x → IsHeld ys x
  held_to x is = record { member = is.member; there = to is.member is.there; holds = is.holds }

  held_from : (x : ℕ) → IsHeld ys x → IsHeld xs x
  held_from x is = record { member = is.member; there = from is.member is.there; holds = is.holds }

  pub fits_to : (bits : ℕ) → Fits xs bits → Fits ys bits
  fits_to bits fits = record { apart = λ a b first second. fits.apart a b (from a first) (from b second); inside = λ a there. fits.inside a (from a there) }

  pub hole_to : (bit width : ℕ) → IsHole xs bit width → IsHole ys bit width
  hole_to bit width is = record { some = is.some; free = λ x one two held. is.free x one two (held_from x held); left = λ x same. held_to x (is.left x same); right = held_to (bit + width) is.right }

  pub padding_to : (bits bit width : ℕ) → IsPadding xs bits bit width → IsPadding ys bits bit width
  padding_to bits bit width is = record { some = is.some; ends = is.ends; free = λ x one held. is.free x one (held_from x held); left = λ x same. held_to x (is.left x same) }

  pub overlap_to : (part with bit : ℕ) → IsOverlap xs part with bit → IsOverlap ys part with bit
  overlap_to part with bit is = record {
    member = is.member;
    there = to is.member is.there;
    is = is.is;
    other = is.other;
    other_there = to is.other is.other_there;
    other_is = is.other_is;
    earlier = is.earlier;
    holds = is.holds;
    other_holds = is.other_holds;
    first_bit = is.first_bit;
    first = λ third there. is.first third (from third there);
  }

  pub outside_to : (bits part : ℕ) → IsOutside xs bits part → IsOutside ys bits part
  outside_to bits part is = record { member = is.member; there = to is.member is.there; is = is.is; past = is.past }

-- ---- all rows

module _ (members sorted : List Extent) (bits : ℕ) (numbered : AreNumbered members) (moved : IsPermutation members sorted) where
  to : (e : Extent) → Contains sorted e → Contains members e
  to = back members sorted numbered moved

  from : (e : Extent) → Contains members e → Contains sorted e
  from = forth members sorted numbered moved

  pub sorted_names : NamesAll members sorted
  sorted_names e there = names_itself members numbered e (to e there)

  pub fitting_rows_are : Fits sorted bits → (rows : List LayoutRow) → AreExactly (IsFittingRow sorted bits) (key_of members) rows → AreRows members bits rows
  fitting_rows_are fits rows is = record { each = λ row there. down row (is.each row there); all = λ row so. is.all row (up row so); rise = is.rise } where
    all_fit : Fits members bits
    all_fit = fits_to sorted members to from bits fits

    down : (row : LayoutRow) → IsFittingRow sorted bits row → IsRow members bits row
    down (Member part bit width) so = to (record { part = part; bit = bit; width = width }) so
    down (Hole bit width) so = (all_fit, hole_to sorted members to from bit width so)
    down (Padding bit width) so = (all_fit, padding_to sorted members to from bits bit width so)
    down (Overlap part with bit) so = absurd so
    down (Outside part) so = absurd so

    up : (row : LayoutRow) → IsRow members bits row → IsFittingRow sorted bits row
    up (Member part bit width) so = from (record { part = part; bit = bit; width = width }) so
    up (Hole bit width) so = hole_to members sorted from to bit width so.1
    up (Padding bit width) so = padding_to members sorted from to bits bit width so.1
    up (Overlap part with bit) so = absurd (overlap_clashes members bits part with bit so all_fit)
    up (Outside part) so = absurd (outside_clashes members bits part so all_fit)

  module _ (order : AreInOrder sorted) (overlaps outsides : List LayoutRow) (over : AreExactly (IsOverlapRow sorted) (key_of members) overlaps) (out : AreExactly (IsOutsideRow sorted bits) (key_of members) outsides) where
    over_down : (row : LayoutRow) → IsOverlapRow sorted row → IsRow members bits row
    over_down (Overlap part with bit) so = overlap_to sorted members to from part with bit so
    over_down (Member part bit width) so = absurd so
    over_down (Hole bit width) so = absurd so
    over_down (Padding bit width) so = absurd so
    over_down (Outside part) so = absurd so

    over_section : (row : LayoutRow) → IsOverlapRow sorted row → (key_of members row).section ≡ 1
    over_section (Overlap part with bit) so = refl
    over_section (Member part bit width) so = absurd so
    over_section (Hole bit width) so = absurd so
    over_section (Padding bit width) so = absurd so
    over_section (Outside part) so = absurd so

    over_clash : (row : LayoutRow) → IsOverlapRow sorted row → Fits members bits → ⊥
    over_clash (Overlap part with bit) so = overlap_clashes members bits part with bit (overlap_to sorted members to from part with bit so)
    over_clash (Member part bit width) so = absurd so
    over_clash (Hole bit width) so = absurd so
    over_clash (Padding bit width) so = absurd so
    over_clash (Outside part) so = absurd so

    out_down : (row : LayoutRow) → IsOutsideRow sorted bits row → IsRow members bits row
    out_down (Outside part) so = outside_to sorted members to from bits part so
    out_down (Member part bit width) so = absurd so
    out_down (Hole bit width) so = absurd so
    out_down (Padding bit width) so = absurd so
    out_down (Overlap part with bit) so = absurd so

    out_section : (row : LayoutRow) → IsOutsideRow sorted bits row → (key_of members row).section ≡ 2
    out_section (Outside part) so = refl
    out_section (Member part bit width) so = absurd so
    out_section (Hole bit width) so = absurd so
    out_section (Padding bit width) so = absurd so
    out_section (Overlap part with bit) so = absurd so

    out_clash : (row : LayoutRow) → IsOutsideRow sorted bits row → Fits members bits → ⊥
    out_clash (Outside part) so = outside_clashes members bits part (outside_to sorted members to from bits part so)
    out_clash (Member part bit width) so = absurd so
    out_clash (Hole bit width) so = absurd so
    out_clash (Padding bit width) so = absurd so
    out_clash (Overlap part with bit) so = absurd so

    first_of : (rows : List LayoutRow) → 0 < length rows → (row : LayoutRow) × Contains rows row
    first_of [] some = absurd (omega arith)
    first_of (row ∷ rows) some = (row, at_front row rows)

    pub overlaps_clash : 0 < length overlaps → Fits members bits → ⊥
    overlaps_clash some = let one = first_of overlaps some in over_clash one.0 (over.each one.0 one.1)

    pub outsides_clash : 0 < length outsides → Fits members bits → ⊥
    outsides_clash some = let one = first_of outsides some in out_clash one.0 (out.each one.0 one.1)

    pub clash_when_some : (one two : List LayoutRow) (b : Bool) → one ≡ overlaps → two ≡ outsides → b ≡ ((length one == 0) && (length two == 0)) → b ≡ false → Fits members bits → ⊥
    clash_when_some one two b first second is false_is fits = elim (and_cases (length one == 0) (length two == 0) (sym is ∙ false_is)) [
      | inl some ↦ overlaps_clash (some_there one overlaps first some) fits
      | inr some ↦ outsides_clash (some_there two outsides second some) fits
    ]

    abbrev members_rows : List LayoutRow
    members_rows = map row_of sorted

    member_is : (row : LayoutRow) → Contains members_rows row → (e : Extent) × Contains sorted e × (row_of e ≡ row)
    member_is row there = in_map_cases row_of sorted row there

    member_down : (row : LayoutRow) → Contains members_rows row → IsRow members bits row
    member_down row there = let found = member_is row there in subst (IsRow members bits) found.2 (to found.0 found.1)

    member_section : (row : LayoutRow) → Contains members_rows row → (key_of members row).section ≡ 0
    member_section row there = let found = member_is row there in ap (λ (r : LayoutRow). (key_of members r).section) (sym found.2)

    between : (a b : LayoutRow) (s t : ℕ) → (key_of members a).section ≡ s → (key_of members b).section ≡ t → s < t → IsBelow (key_of members a) (key_of members b)
    between a b s t one two less = section_below (key_of members a) (key_of members b) (omega arith)

    clash_all : (Fits members bits → ⊥) → (row : LayoutRow) → IsRow members bits row → Contains ((members_rows ++ overlaps) ++ outsides) row
    clash_all clash (Member part bit width) so =
        let e : Extent = record { part = part; bit = bit; width = width } in
        Contains-append_left (members_rows ++ overlaps) outsides (Member part bit width) (Contains-append_left members_rows overlaps (Member part bit width) (in_map row_of sorted e (from e so)))
    clash_all clash (Hole bit width) so = absurd (clash so.0)
    clash_all clash (Padding bit width) so = absurd (clash so.0)
    clash_all clash (Overlap part with bit) so =
        Contains-append_left (members_rows ++ overlaps) outsides (Overlap part with bit)
        (Contains-append_right members_rows overlaps (Overlap part with bit) (over.all (Overlap part with bit) (overlap_to members sorted from to part with bit so)))
    clash_all clash (Outside part) so = Contains-append_right (members_rows ++ overlaps) outsides (Outside part) (out.all (Outside part) (outside_to members sorted from to bits part so))

    pub clashing_rows_are : (Fits members bits → ⊥) → (rows : List LayoutRow) → rows ≡ (members_rows ++ overlaps) ++ outsides → AreRows members bits rows
    clashing_rows_are clash rows is =
        let R : LayoutRow → LayoutRow → Type 0 = λ a b. IsBelow (key_of members a) (key_of members b) in
        subst (AreRows members bits) (sym is) (record {
          each = λ row there. elim (Contains-append_cases (members_rows ++ overlaps) outsides row there) [
            | inl front ↦ elim (Contains-append_cases members_rows overlaps row front) [ inl one ↦ member_down row one | inr two ↦ over_down row (over.each row two) ]
            | inr three ↦ out_down row (out.each row three)
          ];
          all = clash_all clash;
          rise = pairs_append R (members_rows ++ overlaps) outsides
              (pairs_append R members_rows overlaps (pairs_map R row_of sorted order) over.rise (λ a b one two. between a b 0 1 (member_section a one) (over_section b (over.each b two)) (omega arith)))
              out.rise
              (λ a b front three. elim (Contains-append_cases members_rows overlaps a front) [
                | inl one ↦ between a b 0 2 (member_section a one) (out_section b (out.each b three)) (omega arith)
                | inr two ↦ between a b 1 2 (over_section a (over.each a two)) (out_section b (out.each b three)) (omega arith)
              ]);
        })
