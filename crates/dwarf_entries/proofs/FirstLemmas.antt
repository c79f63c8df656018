-- The first entry and the first unit that pass a test.
use Rattle.std.proofs.Common.{◌≡◌, ◌∙◌, ℕ, zero, suc, ◌+◌, ◌<◌, ◌≤◌, ltb, Bool, true, false, List, [], ◌∷◌, length, map, Option, Some, None, Ok, refl, sym, ap, subst, arith, inl, inr}
use Rattle.std.specs.Prelude.{find, position, slice_index_or}
use Rattle.std.specs.List.{range_with_len}
use Rattle.std.specs.Option.{option_map_or}
use Rattle.std.proofs.lemmas.Bool.{cases_Bool, cases_lt}
use Rattle.std.proofs.lemmas.List.{length-map}
use Rattle.std.proofs.lemmas.Option.{same_Some}
use Rattle.abi_base.proofs.lemmas.Cases.{option_cases}
use Rattle.abi_base.specs.declared.fault.Fault.{Fault}
use Rattle.abi_base.specs.Runs.{Chain}
use Rattle.dwarf_units.specs.Units.{PlainUnit}
use Rattle.dwarf_units.specs.Sequence.{UnitStands, unit_fault, unit_of, unit_step, units_of}
use Rattle.dwarf_tree.specs.Trees.{IsOrdered, entry_at, entry_of, head_at, head_of, no_head, tree_of}
use Rattle.dwarf_entries.specs.Addresses.{is_typed_at, typed_of}
use Rattle.dwarf_entries.specs.Chains.{has_signature, signed_of}
use Rattle.dwarf_entries.specs.Debug.{PlainDwarf}
use Rattle.dwarf_entries.specs.First.{IsFirstEntry, IsOfFirstUnit}
use Rattle.dwarf_entries.proofs.PlaceLemmas.{position_by_place}

-- ---- the first number that passes a test

-- it is one of the numbers, it passes, and none before it does
pub record IsFirst (passes : ℕ → Bool) (from end k : ℕ) : Type 0 where
  pub inside : k < end
  pub itself : passes k ≡ true
  pub before : (i : ℕ) → from ≤ i → i < k → passes i ≡ false

first_from : (p : ℕ → Bool) (a n k : ℕ) → find p (range_with_len a n) ≡ Some k → IsFirst p a (a + n) k
first_from p a zero k is = absurd cc
first_from p a (suc n) k is =
    elim (cases_Bool (p a)) [
      | inl here ↦ let same : a ≡ k = same_Some a k (rw here at is) in
          record { inside = omega arith; itself = ap p (sym same) ∙ here; before = λ i from below. absurd (omega arith) }
      | inr apart ↦ let later = first_from p (a + 1) n k (rw apart at is) in
          record {
            inside = omega (arith, later.inside);
            itself = later.itself;
            before = λ i from below.
                elim (cases_lt a i) [
                  | inl lt ↦ later.before i (omega arith) below
                  | inr le ↦ let same : a ≡ i = omega arith in ap p (sym same) ∙ apart
                ];
          }
    ]

first_of : (p : ℕ → Bool) (n k : ℕ) → find p (range_with_len 0 n) ≡ Some k → IsFirst p 0 n k
first_of p n k is =
    let first = first_from p 0 n k is in
    record { inside = omega (arith, first.inside); itself = first.itself; before = first.before }

nowhere_from : (p : ℕ → Bool) (a n i : ℕ) → find p (range_with_len a n) ≡ None → a ≤ i → i < a + n → p i ≡ false
nowhere_from p a zero i is from below = absurd (omega arith)
nowhere_from p a (suc n) i is from below =
    elim (cases_Bool (p a)) [
      | inl here ↦ absurd (let e = rw here at is in cc)
      | inr apart ↦ elim (cases_lt a i) [
        | inl lt ↦ nowhere_from p (a + 1) n i (rw apart at is) (omega arith) (omega arith)
        | inr le ↦ let same : a ≡ i = omega arith in ap p (sym same) ∙ apart
      ]
    ]

-- the first one is not after another one
not_behind : (p : ℕ → Bool) (n k i : ℕ) → IsFirst p 0 n k → p i ≡ true → k ≤ i
not_behind p n k i first passes =
    elim (cases_lt i k) [
      | inl lt ↦ absurd (let fails = first.before i (omega arith) lt in cc)
      | inr le ↦ le
    ]

-- ---- entries

pub typed_first : (d : PlainDwarf) (address e : ℕ) → IsOrdered d.tree → typed_of d address ≡ Some e → IsFirstEntry d.tree (is_typed_at d address) e
unfolding typed_of
typed_first d address e ordered is =
    let first = first_of (is_typed_at d address) (length d.tree.entries) e is in
    record {
      inside = first.inside;
      itself = first.itself;
      least = λ f there passes.
          let le = not_behind (is_typed_at d address) (length d.tree.entries) e f first passes in
          elim (cases_lt e f) [
            | inl lt ↦ omega (arith, ordered.offsets e f lt there)
            | inr ge ↦ let same : e ≡ f = omega arith in omega (arith, ap (λ (i : ℕ). (entry_at d.tree i).offset) same)
          ];
    }

pub typed_nowhere : (d : PlainDwarf) (address e : ℕ) → typed_of d address ≡ None → e < length d.tree.entries → is_typed_at d address e ≡ false
unfolding typed_of
typed_nowhere d address e is there = nowhere_from (is_typed_at d address) 0 (length d.tree.entries) e is (omega arith) (omega arith)

-- ---- units follow one another

abbrev AreRising : ℕ → List PlainUnit → Type 0
AreRising from [] = Unit {0}
AreRising from (u ∷ us) = (from ≤ u.offset) × AreRising (suc u.offset) us

rising_wider : (from from' : ℕ) (us : List PlainUnit) → from' ≤ from → AreRising from us → AreRising from' us
rising_wider from from' [] le is = tt
rising_wider from from' (u ∷ us) le is = (omega (arith, is.0), is.1)

unit_begins : (info abbrevs : List ℕ) (at : ℕ) (u : PlainUnit) (next : ℕ) → unit_step info abbrevs at ≡ Ok (u, next) → u.offset ≡ at
unfolding unit_step unit_of
unit_begins info abbrevs at u next h =
    elim (cases_Bool (ltb at (length info))) [
      | inl lt ↦ let h1 = rw lt at h in
          option_cases (unit_fault info abbrevs at)
          (λ is. let h2 = rw is at h1 in
          let made = unit_of info abbrevs at in
          subst (λ (p : PlainUnit × ℕ). p.0.offset ≡ at) (let same : ◌≡◌ {A = PlainUnit × ℕ} (made, made.end) (u, next) = cc in same) refl)
          (λ f is. absurd (let g = rw is at h1 in cc))
      | inr ge ↦ absurd (let g = rw ge at h in cc)
    ]

abbrev offset_at : List PlainUnit → ℕ → ℕ
offset_at us k = (slice_index_or (map head_of us) k no_head).offset

rising_on : (from : ℕ) (us : List PlainUnit) (k : ℕ) → AreRising from us → k < length us → from ≤ offset_at us k
rising_on from [] k is inside = absurd (omega arith)
rising_on from (u ∷ us) zero is inside = is.0
rising_on from (u ∷ us) (suc k) is inside = let later = rising_on (suc u.offset) us k is.1 (omega arith) in omega (arith, later, is.0)

rising_apart : (from : ℕ) (us : List PlainUnit) (i j : ℕ) → AreRising from us → i < j → j < length us → offset_at us i < offset_at us j
rising_apart from [] i j is before inside = absurd (omega arith)
rising_apart from (u ∷ us) i zero is before inside = absurd (omega arith)
rising_apart from (u ∷ us) zero (suc j) is before inside = let later = rising_on (suc u.offset) us j is.1 (omega arith) in omega (arith, later)
rising_apart from (u ∷ us) (suc i) (suc j) is before inside = rising_apart (suc u.offset) us i j is.1 (omega arith) (omega arith)

-- what the readers of units ensure
abbrev pub FollowOneAnother : Type 0
FollowOneAnother = (info abbrevs : List ℕ) → Chain (unit_step info abbrevs) 0 (units_of info abbrevs).items (units_of info abbrevs).end

abbrev pub StandInside : Type 0
StandInside = (info abbrevs : List ℕ) (at : ℕ) (u : PlainUnit) (next : ℕ) → unit_step info abbrevs at ≡ Ok (u, next) → UnitStands info at u next

module _ (chain : FollowOneAnother) (stands : StandInside) (info abbrevs : List ℕ) where
  rising : (us : List PlainUnit) (at : ℕ) (end : Option Fault) → Chain (unit_step info abbrevs) at us end → AreRising at us
  rising [] at end is = tt
  rising (u ∷ us) at end (next, is, others) =
      let begins = unit_begins info abbrevs at u next is in
      let unit = stands info abbrevs at u next is in
      (omega (arith, begins), rising_wider next (suc u.offset) us (omega (arith, begins, unit.root, unit.on)) (rising us next end others))

  units_apart : (i j : ℕ) → i < j → j < length (tree_of info abbrevs).units → (head_at (tree_of info abbrevs) i).offset < (head_at (tree_of info abbrevs) j).offset
  unfolding tree_of
  units_apart i j before inside =
      rising_apart 0 (units_of info abbrevs).items i j (rising (units_of info abbrevs).items 0 (units_of info abbrevs).end (chain info abbrevs)) before
      (omega (arith, inside, length-map (units_of info abbrevs).items head_of))

  signed_unit : (signature e : ℕ) (unit : Option ℕ) → position (has_signature signature) (tree_of info abbrevs).units ≡ unit
      → option_map_or (λ k. entry_of (tree_of info abbrevs) (head_at (tree_of info abbrevs) k).type_entry) unit None ≡ Some e → IsOfFirstUnit (tree_of info abbrevs) signature e
  signed_unit signature e None at is = absurd cc
  signed_unit signature e (Some unit) at is =
      let t = tree_of info abbrevs in
      let passes : ℕ → Bool = λ k. has_signature signature (head_at t k) in
      let first = first_of passes (length t.units) unit (sym (position_by_place (has_signature signature) t.units no_head) ∙ at) in
      record {
        unit = unit;
        inside = first.inside;
        signed = first.itself;
        least = λ other there signed.
            let le = not_behind passes (length t.units) unit other first signed in
            elim (cases_lt unit other) [
              | inl lt ↦ omega (arith, units_apart unit other lt there)
              | inr ge ↦ let same : unit ≡ other = omega arith in omega (arith, ap (λ (k : ℕ). (head_at t k).offset) same)
            ];
        type = is;
      }

  pub signed_first : (signature e : ℕ) → signed_of (tree_of info abbrevs) signature ≡ Some e → IsOfFirstUnit (tree_of info abbrevs) signature e
  unfolding signed_of
  signed_first signature e is = signed_unit signature e (position (has_signature signature) (tree_of info abbrevs).units) refl is
