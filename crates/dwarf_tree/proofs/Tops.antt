-- The entries of depth 0 are the first ones of their units.
use Rattle.std.proofs.Common.{◌≡◌, ◌≢◌, ◌∙◌, ℕ, zero, suc, ◌+◌, ◌<◌, ◌≤◌, Bool, true, false, List, [], ◌∷◌, ◌++◌, length, map, get_or, Option, Some, None, refl, sym, ap, subst, arith, inl, inr}
use Rattle.std.specs.Prelude.{◌↔◌, ◌==◌, nat_lt, slice_index_or}
use Rattle.std.specs.List.{filter_map, position_or_len}
use Rattle.std.proofs.lemmas.Bool.{cases_lt, eq-eqb, ne_eqb, eqb-false, lt-ltb}
use Rattle.std.proofs.lemmas.Option.{same_Some}
use Rattle.std.proofs.lemmas.List.Quantifiers.{position-Some}
use Rattle.abi_base.specs.declared.fault.Fault.{Fault}
use Rattle.abi_base.specs.Runs.{Chain}
use Rattle.dwarf_units.specs.declared.entry.Entry.{Entry}
use Rattle.dwarf_units.specs.Units.{PlainUnit, State, entries_of, open_lists, root_of as unit_root, token_at, tokens_from}
use Rattle.dwarf_tree.specs.Trees.{TreeEntry, PlainTree, no_entry, entry_at, depth_at, placed, root_of}
use Rattle.dwarf_tree.proofs.Growth.{entries_in}
use Rattle.dwarf_tree.proofs.UnitLaws.{UnitLaws}

-- Each entry of a list has depth 0 exactly when it is not of the unit of the entry before it.
abbrev pub AreTopped : Option ℕ → List TreeEntry → Type 0
AreTopped before [] = Unit {0}
AreTopped before (e ∷ es) = ((e.depth ≡ 0) ↔ (before ≢ Some e.unit)) × AreTopped (Some e.unit) es

-- ---- the entries of a unit

-- an entry in a list is deeper than the root
some_depth : (lists : Option ℕ) → lists ≢ None → lists ≢ Some 0 → open_lists lists ≢ 0
some_depth None begun in_list = absurd (begun refl)
some_depth (Some zero) begun in_list = absurd (in_list refl)
some_depth (Some (suc n)) begun in_list = λ same. absurd (omega arith)

some_lists : (lists : Option ℕ) (n : ℕ) → lists ≡ Some n → lists ≢ None
some_lists lists n is = λ none. absurd (let e : ◌≡◌ {A = Option ℕ} None (Some n) = sym none ∙ is in cc)

module _ (laws : UnitLaws) (u : PlainUnit) (k : ℕ) where
  below_root : (xs : List (Option Entry)) (s : State) (end : Option Fault) → s.1 ≢ None → Chain (token_at u) s xs end → AreTopped (Some k) (map (placed k) (filter_map (λ x. x) xs))
  below_root [] s end begun chain = tt
  below_root (None ∷ xs) s end begun (next, is, others) =
      let t = laws.token u s None next is in
      below_root xs next end (some_lists next.1 t.is.left t.is.lists) others
  below_root (Some e ∷ xs) s end begun (next, is, others) =
      let t = laws.token u s (Some e) next is in
      let deep : e.depth ≢ 0 = λ top. some_depth s.1 begun t.is.in_list (sym t.is.depth ∙ top) in
      (((λ top. absurd (deep top)), (λ apart. absurd (apart refl))), below_root xs next end (some_lists next.1 _ t.is.lists) others)

  from_root : (xs : List (Option Entry)) (at : ℕ) (end : Option Fault) (before : Option ℕ) → before ≢ Some k → Chain (token_at u) (at, None) xs end → AreTopped before (map (placed k) (filter_map (λ x. x) xs))
  from_root [] at end before apart chain = tt
  from_root (None ∷ xs) at end before apart (next, is, others) = absurd ((laws.token u (at, None) None next is).is.begun refl)
  from_root (Some e ∷ xs) at end before apart (next, is, others) =
      let t = laws.token u (at, None) (Some e) next is in
      (((λ top. apart), (λ other. t.is.depth)), below_root xs next end (some_lists next.1 _ t.is.lists) others)

  unit_topped : (before : Option ℕ) → before ≢ Some k → AreTopped before (map (placed k) (entries_of u).items)
  unit_topped before apart =
      subst (λ (es : List Entry). AreTopped before (map (placed k) es)) (sym (laws.entries u))
      (from_root (tokens_from u (unit_root u, None)).items (unit_root u) (tokens_from u (unit_root u, None)).end before apart (laws.tokens u (unit_root u, None)))

-- ---- the entries of units

-- the unit of the entry before is an earlier one
abbrev IsBefore : Option ℕ → ℕ → Type 0
IsBefore before number = (k : ℕ) → before ≡ Some k → k < number

topped-append : (k : ℕ) (es : List Entry) (before : Option ℕ) (others : List TreeEntry) → AreTopped before (map (placed k) es) → IsBefore before (k + 1)
    → ((last : Option ℕ) → IsBefore last (k + 1) → AreTopped last others) → AreTopped before (map (placed k) es ++ others)
topped-append k [] before others is early after = after before early
topped-append k (e ∷ es) before others is early after =
    (is.0, topped-append k es (Some k) others is.1 (λ n same. let e : k ≡ n = same_Some k n same in omega (arith, e)) after)

units_topped : (laws : UnitLaws) (us : List PlainUnit) (number : ℕ) (before : Option ℕ) → IsBefore before number → AreTopped before (entries_in number us)
units_topped laws [] number before early = tt
units_topped laws (u ∷ us) number before early =
    topped-append number (entries_of u).items before (entries_in (number + 1) us)
    (unit_topped laws u number before (λ same. absurd (omega (arith, early number same))))
    (λ k same. omega (arith, early k same))
    (λ last later. units_topped laws us (number + 1) last later)

pub all_topped : (laws : UnitLaws) (us : List PlainUnit) → AreTopped None (entries_in 0 us)
all_topped laws us = units_topped laws us 0 None (λ k same. absurd (let e : ◌≡◌ {A = Option ℕ} None (Some k) = same in cc))

-- ---- by positions

abbrev at_position : List TreeEntry → ℕ → TreeEntry
at_position es i = slice_index_or es i no_entry

first_top : (before : Option ℕ) (es : List TreeEntry) → AreTopped before es → 0 < length es → ((at_position es 0).depth ≡ 0) ↔ (before ≢ Some (at_position es 0).unit)
first_top before [] is inside = absurd (omega arith)
first_top before (e ∷ es) is inside = is.0

next_top : (before : Option ℕ) (es : List TreeEntry) (i : ℕ) → AreTopped before es → suc i < length es
    → ((at_position es (suc i)).depth ≡ 0) ↔ (Some (at_position es i).unit ≢ Some (at_position es (suc i)).unit)
next_top before [] i is inside = absurd (omega arith)
next_top before (e ∷ es) zero is inside = first_top (Some e.unit) es is.1 (omega arith)
next_top before (e ∷ es) (suc i) is inside = next_top (Some e.unit) es i is.1 (omega arith)

-- the first item that passes
position-is : {X : Type 0} (p : X → Bool) (xs : List X) (i : ℕ) (d : X) → i < length xs → p (get_or xs i d) ≡ true → ((k : ℕ) → k < i → p (get_or xs k d) ≡ false) → position_or_len p xs ≡ i
position-is p [] i d inside here before = absurd (omega arith)
position-is p (x ∷ xs) zero d inside here before = rw here refl
position-is p (x ∷ xs) (suc i) d inside here before =
    let passed : p x ≡ false = before 0 (omega arith) in
    let later : position_or_len p xs ≡ i = position-is p xs i d (omega arith) here (λ k lt. before (suc k) (omega arith)) in
    let all : position_or_len p (x ∷ xs) ≡ 1 + position_or_len p xs = rw passed refl in
    omega (arith, all, later)

module _ (t : PlainTree) (is : AreTopped None t.entries) (rise : (i j : ℕ) → i < j → j < length t.entries → (entry_at t i).unit ≤ (entry_at t j).unit) where
  abbrev is_of : ℕ → TreeEntry → Bool
  is_of unit e = e.unit == unit

  root_first : (i : ℕ) → i < length t.entries → ((k : ℕ) → k < i → (entry_at t k).unit ≢ (entry_at t i).unit) → root_of t (entry_at t i).unit ≡ Some i
  unfolding root_of
  root_first i inside apart =
      let place = position-is (is_of (entry_at t i).unit) t.entries i no_entry inside (eq-eqb (entry_at t i).unit (entry_at t i).unit refl) (λ k lt. ne_eqb (entry_at t k).unit (entry_at t i).unit (apart k lt)) in
      let there : nat_lt i (length t.entries) ≡ true = lt-ltb i (length t.entries) inside in
      rw (place, there) refl

  root_alone : (i : ℕ) → root_of t (entry_at t i).unit ≡ Some i → (k : ℕ) → k < i → (entry_at t k).unit ≢ (entry_at t i).unit
  unfolding root_of
  root_alone i root k lt = eqb-false (entry_at t k).unit (entry_at t i).unit ((position-Some (is_of (entry_at t i).unit) t.entries i no_entry root).2 k lt)

  top_is_root : (i : ℕ) → i < length t.entries → depth_at t i ≡ 0 → root_of t (entry_at t i).unit ≡ Some i
  top_is_root zero inside top = root_first 0 inside (λ k lt. absurd (omega arith))
  top_is_root (suc i) inside top =
      let apart = (next_top None t.entries i is inside).0 top in
      root_first (suc i) inside (λ k lt same. apart (ap (λ (n : ℕ). Some n) (omega (arith, same, before k lt, rise i (suc i) (omega arith) inside))))
    where
      before : (k : ℕ) → k < suc i → (entry_at t k).unit ≤ (entry_at t i).unit
      before k lt = elim (cases_lt k i) [
        | inl less ↦ rise k i less (omega arith)
        | inr ge ↦ let same : k ≡ i = omega arith in omega (arith, ap (λ (n : ℕ). (entry_at t n).unit) same)
      ]

  root_is_top : (i : ℕ) → i < length t.entries → root_of t (entry_at t i).unit ≡ Some i → depth_at t i ≡ 0
  root_is_top zero inside root = (first_top None t.entries is inside).1 (λ same. absurd (let e : ◌≡◌ {A = Option ℕ} None (Some (entry_at t 0).unit) = same in cc))
  root_is_top (suc i) inside root =
      (next_top None t.entries i is inside).1 (λ same. root_alone (suc i) root i (omega arith) (same_Some (entry_at t i).unit (entry_at t (suc i)).unit same))

  pub tops_are_roots : (i : ℕ) → i < length t.entries → (depth_at t i ≡ 0) ↔ (root_of t (entry_at t i).unit ≡ Some i)
  tops_are_roots i inside = (top_is_root i inside, root_is_top i inside)
