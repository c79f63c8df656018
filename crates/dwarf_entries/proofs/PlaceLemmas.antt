-- The first place of each number, as a loop over places finds it.
use Rattle.std.proofs.Common.{◌≡◌, ℕ, zero, suc, ◌+◌, ◌-◌, ◌<◌, ◌≤◌, Bool, true, false, cond, List, [], ◌∷◌, length, get_or, drop, Option, Some, None, refl, sym, ◌∙◌, ap, subst, arith, zero-add, add-one, inl, inr}
use Rattle.std.specs.Prelude.{find, position, nat_lt, is_some, ◌==◌, if◌then◌else◌}
use Rattle.std.specs.List.{range_with_len, position_or_len}
use Rattle.std.specs.Option.{option_or, option_map, option_map_or}
use Rattle.std.proofs.Math.Seq.{drop-cons}
use Rattle.std.proofs.lemmas.List.{drop_all}
use Rattle.std.proofs.lemmas.Bool.{cases_Bool, eqb-true}
use Rattle.std.proofs.lemmas.Bool.Decides.{nat_tests}
use Rattle.abi_base.proofs.lemmas.Places.{places, places_more, find_none}
use Rattle.std.proofs.lemmas.Option.{same_Some}
use Rattle.abi_base.proofs.lemmas.Options.{absent}
use Rattle.dwarf_tree.specs.Trees.{PlainTree, head_at, no_head}
use Rattle.dwarf_entries.specs.Debug.{PlainDwarf}
use Rattle.dwarf_entries.specs.Chains.{has_signature}
use Rattle.dwarf_entries.specs.Addresses.{is_some_number, is_typed_at, typed_of}
use Rattle.dwarf_entries.specs.Places.{Places, place_under, HoldUnits, HoldEntries}

-- ---- the place of an item of a list, by the places of the list

one_more : (n l m : ℕ) → m ≡ 1 + n → cond (nat_lt m (suc l)) (Some m) None ≡ option_map (λ (k : ℕ). 1 + k) (cond (nat_lt n l) (Some n) None)
one_more n l m e =
    elim (cases_Bool (nat_lt n l)) [
      | inl is ↦ let more : nat_lt m (suc l) ≡ true = grind (arith, nat_tests) in rw (is, more) (ap (λ (k : ℕ). Some k) e)
      | inr isnt ↦ let more : nat_lt m (suc l) ≡ false = grind (arith, nat_tests) in rw (isnt, more) refl
    ]

position-cons : {X : Type 0} (p : X → Bool) (x : X) (xs : List X) → position p (x ∷ xs) ≡ cond {A = Option ℕ} (p x) (Some 0) (option_map (λ (k : ℕ). 1 + k) (position p xs))
position-cons p x xs = elim (cases_Bool (p x)) [
  | inl is ↦ rw is (at_front (length xs))
  | inr isnt ↦ rw isnt (one_more (position_or_len p xs) (length xs) (1 + position_or_len p xs) refl)
]
  where
    at_front : (l : ℕ) → cond {A = Option ℕ} (nat_lt 0 (suc l)) (Some 0) None ≡ Some 0
    at_front l = let e : nat_lt 0 (suc l) ≡ true = grind (arith, nat_tests) in rw e refl

moved : (i : ℕ) (o : Option ℕ) → option_map (λ (k : ℕ). i + k) (option_map (λ (k : ℕ). 1 + k) o) ≡ option_map (λ (k : ℕ). i + 1 + k) o
moved i None = refl
moved i (Some k) = let e : i + (1 + k) ≡ i + 1 + k = omega arith in ap (λ (n : ℕ). Some n) e

position_from : {X : Type 0} (p : X → Bool) (xs : List X) (d : X) (n i : ℕ) → i + n ≡ length xs
    → option_map (λ (k : ℕ). i + k) (position p (drop i xs)) ≡ find (λ k. p (get_or xs k d)) (range_with_len i n)
position_from {X = X} p xs d zero i is =
    let e : drop i xs ≡ [] = drop_all i xs (omega arith) in
    rw e refl
position_from {X = X} p xs d (suc n) i is =
    let e : drop i xs ≡ get_or xs i d ∷ drop (i + 1) xs = rw add-one (drop-cons xs i d (omega arith)) in
    ap (λ (ys : List X). option_map (λ (k : ℕ). i + k) (position p ys)) e
    ∙ ap (option_map (λ (k : ℕ). i + k)) (position-cons p (get_or xs i d) (drop (i + 1) xs))
    ∙ elim (cases_Bool (p (get_or xs i d))) [
      | inl here ↦ rw here (let z : i + 0 ≡ i = omega arith in ap (λ (k : ℕ). Some k) z)
      | inr apart ↦ rw apart (moved i (position p (drop (i + 1) xs)) ∙ position_from p xs d n (i + 1) (omega arith))
    ]

same_moved : (o : Option ℕ) → option_map (λ (k : ℕ). 0 + k) o ≡ o
same_moved None = refl
same_moved (Some k) = ap (λ (n : ℕ). Some n) (zero-add k)

pub position_by_place : {X : Type 0} (p : X → Bool) (xs : List X) (d : X) → position p xs ≡ find (λ k. p (get_or xs k d)) (range_with_len 0 (length xs))
position_by_place p xs d = sym (same_moved (position p xs)) ∙ position_from p xs d (length xs) 0 (zero-add (length xs))

-- ---- a place that is found is a place

pub find_inside : (p : ℕ → Bool) (a n k : ℕ) → find p (range_with_len a n) ≡ Some k → k < a + n
find_inside p a zero k is = absurd cc
find_inside p a (suc n) k is =
    elim (cases_Bool (p a)) [
      | inl here ↦ let is1 = rw here at is in
          let e : a ≡ k = same_Some a k is1 in
          omega arith
      | inr apart ↦ let is1 = rw apart at is in
          let lt : k < a + 1 + n = find_inside p (a + 1) n k is1 in
          omega arith
    ]

-- ---- what the map has of the places before one, and what is found from it on

pub record KeepFirsts (kept : Places) (stands : ℕ → ℕ → Bool) (i n : ℕ) : Type 0 where
  pub first : (q : ℕ) → option_or (place_under kept q) (find (stands q) (places i n)) ≡ find (stands q) (range_with_len 0 n)

pub keep_none : (kept : Places) (stands : ℕ → ℕ → Bool) (n : ℕ) → kept.entries ≡ [] → KeepFirsts kept stands 0 n
keep_none kept stands n empty = record {
  first = λ q.
      let e : n - 0 ≡ n = omega arith in
      rw (empty, e) refl;
}

or_here : (old rest : Option ℕ) (here : Bool) (i : ℕ) → option_or (option_or old (cond here (Some i) None)) rest ≡ option_or old (cond here (Some i) rest)
or_here None rest true i = refl
or_here None rest false i = refl
or_here (Some k) rest here i = refl

-- one more place, with a number or without one
pub keep_more : (kept next : Places) (stands : ℕ → ℕ → Bool) (i n : ℕ) (number : Option ℕ) → KeepFirsts kept stands i n → i < n
    → ((q : ℕ) → is_some_number q number ≡ stands q i) → ((q : ℕ) → place_under next q ≡ option_or (place_under kept q) (if is_some_number q number then Some i else None))
    → KeepFirsts next stands (i + 1) n
keep_more kept next stands i n number so_far lt stands_for adds = record {
  first = λ q.
      ap (λ (o : Option ℕ). option_or o (find (stands q) (places (i + 1) n))) (adds q)
      ∙ or_here (place_under kept q) (find (stands q) (places (i + 1) n)) (is_some_number q number) i
      ∙ ap (λ (b : Bool). option_or (place_under kept q) (cond b (Some i) (find (stands q) (places (i + 1) n)))) (stands_for q)
      ∙ ap (λ (ks : List ℕ). option_or (place_under kept q) (find (stands q) ks)) (sym (places_more i n lt)) ∙ so_far.first q;
}

or_nothing : (o : Option ℕ) → option_or o None ≡ o
or_nothing None = refl
or_nothing (Some k) = refl

pub kept_all : (kept : Places) (stands : ℕ → ℕ → Bool) (i n : ℕ) → KeepFirsts kept stands i n → n ≤ i → (q : ℕ) → place_under kept q ≡ find (stands q) (range_with_len 0 n)
kept_all kept stands i n so_far le q =
    sym (or_nothing (place_under kept q)) ∙ ap (option_or (place_under kept q)) (sym (find_none (stands q) i n le)) ∙ so_far.first q

pub hold_units : (kept : Places) (t : PlainTree) (i : ℕ) → KeepFirsts kept (λ q k. has_signature q (head_at t k)) i (length t.units) → length t.units ≤ i → HoldUnits kept t
hold_units kept t i so_far le = record {
  first = λ q. kept_all kept (λ q k. has_signature q (head_at t k)) i (length t.units) so_far le q ∙ sym (position_by_place (has_signature q) t.units no_head);
}

pub hold_entries : (kept : Places) (d : PlainDwarf) (i : ℕ) → KeepFirsts kept (is_typed_at d) i (length d.tree.entries) → length d.tree.entries ≤ i → HoldEntries kept d
unfolding typed_of
hold_entries kept d i so_far le = record { first = λ q. kept_all kept (is_typed_at d) i (length d.tree.entries) so_far le q }

pub signature_number : (q : ℕ) (signature : Option ℕ) → is_some_number q signature ≡ option_map_or (λ s. s == q) signature false
signature_number q None = refl
signature_number q (Some s) = refl

-- ---- one number

pub first_kept : (old next : Places) (number place : ℕ) (there : Bool) → there ≡ is_some (place_under old number) → there ≡ false
    → ((q : ℕ) → place_under next q ≡ cond (number == q) (Some place) (place_under old q))
    → (q : ℕ) → place_under next q ≡ option_or (place_under old q) (if number == q then Some place else None)
first_kept old next number place there is none adds q =
    adds q ∙ elim (cases_Bool (number == q)) [
      | inl same ↦ let e : number ≡ q = eqb-true number q same in
          let here : place_under old q ≡ None = subst (λ (n : ℕ). place_under old n ≡ None) e (absent (place_under old number) there is none) in
          rw (same, here) refl
      | inr apart ↦ rw apart (sym (or_nothing (place_under old q)))
    ]

found_there : (o : Option ℕ) (b : Bool) → b ≡ is_some o → b ≡ true → (place : ℕ) → o ≡ option_or o (Some place)
found_there None b is some place = absurd cc
found_there (Some k) b is some place = refl

pub first_stays : (old : Places) (number place : ℕ) (there : Bool) → there ≡ is_some (place_under old number) → there ≡ true
    → (q : ℕ) → place_under old q ≡ option_or (place_under old q) (if number == q then Some place else None)
first_stays old number place there is some q =
    elim (cases_Bool (number == q)) [
      | inl same ↦ let e : number ≡ q = eqb-true number q same in
          rw same (subst (λ (n : ℕ). place_under old n ≡ option_or (place_under old n) (Some place)) e (found_there (place_under old number) there is some place))
      | inr apart ↦ rw apart (sym (or_nothing (place_under old q)))
    ]
