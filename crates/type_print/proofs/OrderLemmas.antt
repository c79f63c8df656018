-- The order of members: it is one, and a sort puts members in it.
use Rattle.std.proofs.Common.{◌≡◌, ◌≢◌, ◌<◌, ◌≤◌, ℕ, Bool, true, false, List, length, get_or, ◌⊎◌, inl, inr, refl, sym, ◌∙◌, ap, arith}
use Rattle.std.specs.Prelude.{◌==◌, nat_lt}
use Rattle.std.specs.List.{Contains, IsDistinct}
use Rattle.std.specs.List.Sorted.{IsSorted, IsPermutation}
use Rattle.std.specs.Cmp.{IsTotalOrder, IsStrictWeakOrder}
use Rattle.std.specs.Ordering.{nat_cmp, bool_cmp, ordering_then, ordering_reverse, is_lt}
use Rattle.std.specs.declared.cmp.Ordering.{Ordering}
use Rattle.std.specs.declared.cmp.Ordering.TheVariants.{Less, Equal}
use Rattle.std.proofs.lemmas.Bool.{cases_lt, cases_order, lt-ltb, le-ltb, eq-eqb, both_ways}
use Rattle.std.proofs.lemmas.Bool.Decides.{nat_tests}
use Rattle.std.proofs.lemmas.Cmp.{nat_cmp_total, then_total, on_total}
use Rattle.std.proofs.lemmas.List.{get_or_default}
use Rattle.std.proofs.lemmas.List.Sorted.{ranks_by, sorted_far, IsPermutation-sym, Contains-permutation}
use Rattle.std.proofs.lemmas.Map.Keys.{IsDistinct-from_apart, IsDistinct-IsPermutation, apart_from_distinct}
use Rattle.abi_base.proofs.lemmas.Orders.{nat_less}
use Rattle.type_print.specs.declared.extent.Extent.{Extent}
use Rattle.type_print.specs.Members.{Key, IsBelow, rank_of, member_key, Precedes, AreInOrder, extent_cmp, no_member, member_at, AreNumbered, NamesAll}
use Rattle.abi_types.proofs.lemmas.Numbers.{nat_same}

-- ---- keys

pub below_not_both : (a b : Key) → IsBelow a b → IsBelow b a → ⊥
below_not_both a b x y =
    let one = x.sections in
    let two = y.sections in
    let s : a.section ≡ b.section = omega arith in
    let t : b.section ≡ a.section = omega arith in
    let three = x.bits s in
    let four = y.bits t in
    let p : a.bit ≡ b.bit = omega arith in
    let q : b.bit ≡ a.bit = omega arith in
    let five = x.ranks s p in
    let six = y.ranks t q in
    let r : a.rank ≡ b.rank = omega arith in
    let v : b.rank ≡ a.rank = omega arith in
    let seven = x.parts s p r in
    let eight = y.parts t q v in
    omega arith

pub below_not_itself : (a : Key) → IsBelow a a → ⊥
below_not_itself a x = below_not_both a a x x

-- two keys of one section
pub below_cases : (a b : Key) → a.section ≡ b.section → IsBelow a b ⊎ (IsBelow b a ⊎ ((a.bit ≡ b.bit) × (a.rank ≡ b.rank) × (a.part ≡ b.part)))
below_cases a b same = elim (cases_order a.bit b.bit) [
  | inl bit ↦ elim (cases_order a.rank b.rank) [
    | inl rank ↦ elim (cases_order a.part b.part) [
      | inl part ↦ inr (inr (bit, rank, part))
      | inr (inl less) ↦ inl (record { sections = omega arith; bits = λ s. omega arith; ranks = λ s p. omega arith; parts = λ s p r. less })
      | inr (inr more) ↦ inr (inl (record { sections = omega arith; bits = λ s. omega arith; ranks = λ s p. omega arith; parts = λ s p r. more }))
    ]
    | inr (inl less) ↦ inl (record { sections = omega arith; bits = λ s. omega arith; ranks = λ s p. omega arith; parts = λ s p r. absurd (omega arith) })
    | inr (inr more) ↦ inr (inl (record { sections = omega arith; bits = λ s. omega arith; ranks = λ s p. omega arith; parts = λ s p r. absurd (omega arith) }))
  ]
  | inr (inl less) ↦ inl (record { sections = omega arith; bits = λ s. omega arith; ranks = λ s p. absurd (omega arith); parts = λ s p r. absurd (omega arith) })
  | inr (inr more) ↦ inr (inl (record { sections = omega arith; bits = λ s. omega arith; ranks = λ s p. absurd (omega arith); parts = λ s p r. absurd (omega arith) }))
]

pub precede_cases : (a b : Extent) → Precedes a b ⊎ (Precedes b a ⊎ ((a.bit ≡ b.bit) × (rank_of a.width ≡ rank_of b.width) × (a.part ≡ b.part)))
precede_cases a b = below_cases (member_key 0 a) (member_key 0 b) refl

pub below_trans : (a b c : Key) → IsBelow a b → IsBelow b c → IsBelow a c
below_trans a b c x y =
    let one = x.sections in
    let two = y.sections in
    let ab : a.section ≡ c.section → a.section ≡ b.section = λ s. omega arith in
    let bc : a.section ≡ c.section → b.section ≡ c.section = λ s. omega arith in
    let bits : a.section ≡ c.section → a.bit ≤ c.bit = λ s. let three = x.bits (ab s) in let four = y.bits (bc s) in omega arith in
    let ab_bit : a.section ≡ c.section → a.bit ≡ c.bit → a.bit ≡ b.bit = λ s p. let three = x.bits (ab s) in let four = y.bits (bc s) in omega arith in
    let bc_bit : a.section ≡ c.section → a.bit ≡ c.bit → b.bit ≡ c.bit = λ s p. let three = x.bits (ab s) in let four = y.bits (bc s) in omega arith in
    record {
      sections = omega arith;
      bits = bits;
      ranks = λ s p. let five = x.ranks (ab s) (ab_bit s p) in let six = y.ranks (bc s) (bc_bit s p) in omega arith;
      parts = λ s p r.
          let five = x.ranks (ab s) (ab_bit s p) in
          let six = y.ranks (bc s) (bc_bit s p) in
          let seven = x.parts (ab s) (ab_bit s p) (omega arith) in
          let eight = y.parts (bc s) (bc_bit s p) (omega arith) in
          omega arith;
    }

-- keys of a lower section
pub section_below : (a b : Key) → a.section < b.section → IsBelow a b
section_below a b less = record { sections = omega arith; bits = λ s. absurd (omega arith); ranks = λ s p. absurd (omega arith); parts = λ s p r. absurd (omega arith) }

-- the same in another section
pub precede_in : (section : ℕ) (a b : Extent) → Precedes a b → IsBelow (member_key section a) (member_key section b)
precede_in section a b order = record {
  sections = omega arith;
  bits = λ s. order.bits refl;
  ranks = λ s p. order.ranks refl p;
  parts = λ s p r. order.parts refl p r;
}

-- ---- the order of a sort

bools_flip : (x y : Bool) → bool_cmp x y ≡ ordering_reverse (bool_cmp y x)
bools_flip true true = refl
bools_flip true false = refl
bools_flip false true = refl
bools_flip false false = refl

bools_trans : (x y z : Bool) → bool_cmp x y ≡ Less → bool_cmp y z ≡ Less → bool_cmp x z ≡ Less
bools_trans true true z e f = cc
bools_trans true false z e f = cc
bools_trans false true true e f = cc
bools_trans false true false e f = cc
bools_trans false false z e f = cc

bools_alike : (x y z : Bool) → bool_cmp x y ≡ Equal → bool_cmp x z ≡ bool_cmp y z
bools_alike true true z e = refl
bools_alike true false z e = cc
bools_alike false true z e = cc
bools_alike false false z e = refl

bools_total : IsTotalOrder bool_cmp
bools_total = record { antisymm = bools_flip; trans = bools_trans; congr = bools_alike }

extents_total : IsTotalOrder extent_cmp
extents_total =
    then_total (then_total (on_total (λ (e : Extent). e.bit) nat_cmp_total) (on_total (λ (e : Extent). nat_lt 0 e.width) bools_total)) (on_total (λ (e : Extent). e.part) nat_cmp_total)

-- what the widths say, in one of three ways
widths : (v w : ℕ) → rank_of v ≤ rank_of w → (bool_cmp (nat_lt 0 v) (nat_lt 0 w) ≡ Less) ⊎ ((bool_cmp (nat_lt 0 v) (nat_lt 0 w) ≡ Equal) × (rank_of v ≡ rank_of w))
widths v w le = elim (cases_lt 0 v) [
  | inl some ↦ elim (cases_lt 0 w) [
    | inl wide ↦ inr (ap (λ (b : Bool). bool_cmp b (nat_lt 0 w)) (lt-ltb 0 v some) ∙ ap (λ (b : Bool). bool_cmp true b) (lt-ltb 0 w wide), omega arith)
    | inr none ↦ absurd (omega arith)
  ]
  | inr none ↦ elim (cases_lt 0 w) [
    | inl wide ↦ inl (ap (λ (b : Bool). bool_cmp b (nat_lt 0 w)) (le-ltb 0 v none) ∙ ap (λ (b : Bool). bool_cmp false b) (lt-ltb 0 w wide))
    | inr empty ↦ inr (ap (λ (b : Bool). bool_cmp b (nat_lt 0 w)) (le-ltb 0 v none) ∙ ap (λ (b : Bool). bool_cmp false b) (le-ltb 0 w empty), omega arith)
  ]
]

less_from_precedes : (a b : Extent) → Precedes a b → is_lt (extent_cmp a b) ≡ true
less_from_precedes a b order =
    let wide = bool_cmp (nat_lt 0 a.width) (nat_lt 0 b.width) in
    let parts = nat_cmp a.part b.part in
    elim (cases_order a.bit b.bit) [
      | inl same ↦
          let first = ap (λ (o : Ordering). is_lt (ordering_then (ordering_then o wide) parts)) (nat_same a.bit b.bit same) in
          elim (widths a.width b.width (order.ranks refl same)) [
            | inl less ↦ first ∙ ap (λ (o : Ordering). is_lt (ordering_then o parts)) less
            | inr both ↦ first ∙ ap (λ (o : Ordering). is_lt (ordering_then o parts)) both.0 ∙ ap is_lt (nat_less a.part b.part (order.parts refl same both.1))
          ]
      | inr (inl less) ↦ ap (λ (o : Ordering). is_lt (ordering_then (ordering_then o wide) parts)) (nat_less a.bit b.bit less)
      | inr (inr more) ↦ let le = order.bits refl in absurd (omega arith)
    ]

precedes_from : (a b : Extent) → is_lt (extent_cmp b a) ≡ false → a.part ≢ b.part → Precedes a b
precedes_from a b not apart = elim (precede_cases a b) [
  | inl before ↦ before
  | inr (inl behind) ↦ absurd (both_ways (is_lt (extent_cmp b a)) not (less_from_precedes b a behind))
  | inr (inr same) ↦ absurd (apart same.2)
]

weak : IsStrictWeakOrder (λ (x y : Extent). is_lt (extent_cmp x y))
weak = ranks_by extents_total (λ (e : Extent). e)

-- ---- numbered members

module _ (members sorted : List Extent) (numbered : AreNumbered members) (moved : IsPermutation members sorted) where
  part_at : (i : ℕ) (d : Extent) → i < length members → (get_or members i d).part ≡ i
  part_at i d inside = ap (λ (e : Extent). e.part) (get_or_default members i d no_member inside) ∙ numbered i inside

  abbrev same_part : Extent → Extent → Bool
  same_part a b = a.part == b.part

  parts_apart : (i j : ℕ) (d : Extent) → i < j → j < length sorted → (get_or sorted i d).part ≢ (get_or sorted j d).part
  parts_apart i j d less inside same =
      let numbered_apart : IsDistinct same_part members = IsDistinct-from_apart same_part members (λ a b e lt below.
      let one = part_at a e (omega arith) in
      let two = part_at b e below in
      rw (one, two) (grind arith)) in
      let distinct = IsDistinct-IsPermutation same_part (λ x y. grind (arith, nat_tests)) members sorted moved numbered_apart in
      let differ : ((get_or sorted i d).part == (get_or sorted j d).part) ≡ false = apart_from_distinct same_part sorted i j d distinct less inside in
      both_ways ((get_or sorted i d).part == (get_or sorted j d).part) differ (eq-eqb (get_or sorted i d).part (get_or sorted j d).part same)

  pub in_order : IsSorted extent_cmp sorted → AreInOrder sorted
  in_order rises i j d less inside =
      precedes_from (get_or sorted i d) (get_or sorted j d) (sorted_far (λ (x y : Extent). is_lt (extent_cmp x y)) weak sorted rises i j d (omega arith) inside) (parts_apart i j d less inside)

  pub back : (e : Extent) → Contains sorted e → Contains members e
  back e there = Contains-permutation sorted members e (IsPermutation-sym members sorted moved) there

  pub forth : (e : Extent) → Contains members e → Contains sorted e
  forth e there = Contains-permutation members sorted e moved there

-- each member is the one at its position
pub names_itself : (members : List Extent) → AreNumbered members → NamesAll members members
names_itself members numbered e there =
    let inside : there.0 < length members = there.1 in
    let here : member_at members there.0 ≡ e = get_or_default members there.0 no_member e inside ∙ there.2 in
    let part : there.0 ≡ e.part = sym (numbered there.0 inside) ∙ ap (λ (m : Extent). m.part) here in
    ap (member_at members) (sym part) ∙ here

-- members of one position are one
pub same_member : (all members : List Extent) → NamesAll all members → (a b : Extent) → Contains members a → Contains members b → a.part ≡ b.part → a ≡ b
same_member all members names a b first second same = sym (names a first) ∙ ap (member_at all) same ∙ names b second
