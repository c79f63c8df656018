-- The children of an entry, listed one after the other.
use Rattle.std.proofs.Common.{◌≡◌, ◌∙◌, ◌<◌, ◌≤◌, ◌+◌, ◌-◌, ◌==◌, ℕ, zero, suc, Bool, true, false, List, [], ◌∷◌, ◌++◌, Option, Some, None, refl, sym, ap, subst, arith, append_assoc, inl, inr}
use Rattle.std.specs.Prelude.{find, filter, nat_lt, slice_get, IfSome}
use Rattle.std.specs.List.{range_with_len}
use Rattle.std.specs.Option.{option_map_or, ForSome}
use Rattle.std.proofs.lemmas.Bool.{cases_Bool, le-ltb, lt-ltb, ltb-true}
use Rattle.std.proofs.lemmas.List.Elements.{filter-append}
use Rattle.std.proofs.lemmas.List.{append-nil}
use Rattle.std.proofs.lemmas.Option.{same_Some, none-some}
use Rattle.dwarf_tree.specs.Trees.{PlainTree, depth_at, count_below, children_of, from_child, next_child_of, is_after, is_tagged}

-- ---- numbers of a range that pass a test

-- what is found in a range is in it
found_from : (p q : ℕ → Bool) (a n c : ℕ) → find q (filter p (range_with_len a n)) ≡ Some c → a ≤ c
found_from p q a zero c is = absurd (none-some c is)
found_from p q a (suc n) c is =
    elim (cases_Bool (p a)) [
      | inl kept ↦ elim (cases_Bool (q a)) [
        | inl here ↦ let e = same_Some a c (rw (kept, here) at is) in omega (arith, e)
        | inr later ↦ let e = found_from p q (a + 1) n c (rw (kept, later) at is) in omega (arith, e)
      ]
      | inr passed ↦ let e = found_from p q (a + 1) n c (rw passed at is) in omega (arith, e)
    ]

got_from : (p : ℕ → Bool) (a n k c : ℕ) → slice_get (filter p (range_with_len a n)) k ≡ Some c → a ≤ c
got_from p a zero k c is = absurd (none-some c is)
got_from p a (suc n) zero c is =
    elim (cases_Bool (p a)) [
      | inl kept ↦ let e = same_Some a c (rw kept at is) in omega (arith, e)
      | inr passed ↦ let e = got_from p (a + 1) n zero c (rw passed at is) in omega (arith, e)
    ]
got_from p a (suc n) (suc k) c is =
    elim (cases_Bool (p a)) [
      | inl kept ↦ let e = got_from p (a + 1) n k c (rw kept at is) in omega (arith, e)
      | inr passed ↦ let e = got_from p (a + 1) n (suc k) c (rw passed at is) in omega (arith, e)
    ]

-- all that is after a number is after each smaller one
all_pass : (p q : ℕ → Bool) (a n : ℕ) → ((i : ℕ) → a ≤ i → q i ≡ true) → filter q (filter p (range_with_len a n)) ≡ filter p (range_with_len a n)
all_pass p q a zero pass = refl
all_pass p q a (suc n) pass =
    let later = all_pass p q (a + 1) n (λ i le. pass i (omega arith)) in
    elim (cases_Bool (p a)) [
      | inl kept ↦ let here = pass a (omega arith) in rw (kept, here) (ap (λ xs. a ∷ xs) later)
      | inr passed ↦ rw passed later
    ]

-- the first one is found where all pass
first_found : (p q : ℕ → Bool) (a n : ℕ) → ((i : ℕ) → a ≤ i → q i ≡ true) → find q (filter p (range_with_len a n)) ≡ slice_get (filter p (range_with_len a n)) 0
first_found p q a zero pass = refl
first_found p q a (suc n) pass =
    elim (cases_Bool (p a)) [
      | inl kept ↦ let here = pass a (omega arith) in rw (kept, here) refl
      | inr passed ↦ rw passed (first_found p q (a + 1) n (λ i le. pass i (omega arith)))
    ]

is_after-later : (after : Option ℕ) (a i : ℕ) → is_after after a ≡ true → a ≤ i → is_after after i ≡ true
is_after-later None a i is le = refl
is_after-later (Some c) a i is le = lt-ltb c i (omega (arith, ltb-true c a is))

-- the items after a place are the first item after it, and the items after that one
found_first : (p : ℕ → Bool) (after : Option ℕ) (a n c : ℕ) → find (is_after after) (filter p (range_with_len a n)) ≡ Some c
    → filter (is_after after) (filter p (range_with_len a n)) ≡ c ∷ filter (is_after (Some c)) (filter p (range_with_len a n))
found_first p after a zero c is = absurd (none-some c is)
found_first p after a (suc n) c is =
    elim (cases_Bool (p a)) [
      | inl kept ↦ elim (cases_Bool (is_after after a)) [
        | inl here ↦ let e = same_Some a c (rw (kept, here) at is) in
            let own : nat_lt a a ≡ false = le-ltb a a (omega arith) in
            let rest = all_pass p (is_after after) (a + 1) n (λ i le. is_after-later after a i here (omega arith)) in
            let rest2 = all_pass p (is_after (Some a)) (a + 1) n (λ i le. lt-ltb a i (omega arith)) in
            let xs : List ℕ = a ∷ filter p (range_with_len (a + 1) n) in
            let here_is : filter (is_after after) xs ≡ a ∷ filter (is_after (Some a)) xs = rw (here, own, rest, rest2) refl in
            rw kept (subst (λ x. filter (is_after after) xs ≡ x ∷ filter (is_after (Some x)) xs) e here_is)
        | inr later ↦ let was = rw (kept, later) at is in
            let le = found_from p (is_after after) (a + 1) n c was in
            let not_after : nat_lt c a ≡ false = le-ltb c a (omega (arith, le)) in
            rw (kept, later, not_after) (found_first p after (a + 1) n c was)
      ]
      | inr passed ↦ let was = rw passed at is in rw passed (found_first p after (a + 1) n c was)
    ]

found_none : {X : Type 0} (q : X → Bool) (xs : List X) → find q xs ≡ None → filter q xs ≡ []
found_none q [] is = refl
found_none q (x ∷ xs) is =
    elim (cases_Bool (q x)) [
      | inl here ↦ absurd (let e = rw here at is in cc)
      | inr other ↦ rw other (found_none q xs (rw other at is))
    ]

-- after an item comes the next one
next_got : (p : ℕ → Bool) (a n k c : ℕ) → slice_get (filter p (range_with_len a n)) k ≡ Some c → find (is_after (Some c)) (filter p (range_with_len a n)) ≡ slice_get (filter p (range_with_len a n)) (suc k)
next_got p a zero k c is = absurd (none-some c is)
next_got p a (suc n) zero c is =
    elim (cases_Bool (p a)) [
      | inl kept ↦ let e : a ≡ c = same_Some a c (rw kept at is) in
          let early : nat_lt c a ≡ false = le-ltb c a (omega arith) in
          rw (kept, early) (first_found p (is_after (Some c)) (a + 1) n (λ i le. lt-ltb c i (omega arith)))
      | inr passed ↦ rw passed (next_got p (a + 1) n zero c (rw passed at is))
    ]
next_got p a (suc n) (suc k) c is =
    elim (cases_Bool (p a)) [
      | inl kept ↦ let was = rw kept at is in
          let le = got_from p (a + 1) n k c was in
          let early : nat_lt c a ≡ false = le-ltb c a (omega (arith, le)) in
          rw (kept, early) (next_got p (a + 1) n k c was)
      | inr passed ↦ rw passed (next_got p (a + 1) n (suc k) c (rw passed at is))
    ]

-- ---- children

pub first_child : (t : PlainTree) (e : ℕ) → next_child_of t e None ≡ slice_get (children_of t e) 0
unfolding children_of
first_child t e = first_found (λ i. depth_at t i == depth_at t e + 1) (is_after None) (e + 1) (count_below t e) (λ i le. refl)

pub child_after : (t : PlainTree) (e k child : ℕ) → slice_get (children_of t e) k ≡ Some child → next_child_of t e (Some child) ≡ slice_get (children_of t e) (k + 1)
unfolding children_of
child_after t e k child is =
    let next : k + 1 ≡ suc k = omega arith in
    rw next (next_got (λ i. depth_at t i == depth_at t e + 1) (e + 1) (count_below t e) k child is)

pub from_next : (t : PlainTree) (e : ℕ) (after next : Option ℕ) → next ≡ next_child_of t e after → filter (is_after after) (children_of t e) ≡ from_child t e next
unfolding children_of
from_next t e after None is = found_none (is_after after) (children_of t e) (sym is)
from_next t e after (Some c) is = found_first (λ i. depth_at t i == depth_at t e + 1) after (e + 1) (count_below t e) c (sym is)

pub children_left : (t : PlainTree) (e : ℕ) (after : Option ℕ) → filter (is_after after) (children_of t e) ≡ from_child t e (next_child_of t e after)
children_left t e after = from_next t e after (next_child_of t e after) refl

from_first : (t : PlainTree) (e : ℕ) (next : Option ℕ) → next ≡ next_child_of t e None → from_child t e next ≡ children_of t e
unfolding children_of
from_first t e next is = sym (from_next t e None next is) ∙ all_pass (λ i. depth_at t i == depth_at t e + 1) (is_after None) (e + 1) (count_below t e) (λ i le. refl)

-- ---- the loop over the children of one tag

-- the children from one on with a tag, with the earlier ones
abbrev pub IsTaking : PlainTree → ℕ → ℕ → List ℕ → Option ℕ → Type 0
IsTaking t e tag list next = list ++ filter (is_tagged t tag) (from_child t e next) ≡ filter (is_tagged t tag) (children_of t e)

pub taking_start : (t : PlainTree) (e tag : ℕ) (next : Option ℕ) → next ≡ next_child_of t e None → IsTaking t e tag [] next
taking_start t e tag next is = ap (filter (is_tagged t tag)) (from_first t e next is)

pub taking_more : (t : PlainTree) (e tag c : ℕ) (list new : List ℕ) (next : Option ℕ) → IsTaking t e tag list (Some c) → next ≡ next_child_of t e (Some c)
    → new ≡ list ++ filter (is_tagged t tag) (c ∷ []) → IsTaking t e tag new next
taking_more t e tag c list new next was is grown =
    let p : ℕ → Bool = is_tagged t tag in
    let rest = from_next t e (Some c) next is in
    ap (λ xs. xs ++ filter p (from_child t e next)) grown
    ∙ append_assoc list (filter p (c ∷ [])) (filter p (from_child t e next))
    ∙ ap (λ xs. list ++ (filter p (c ∷ []) ++ filter p xs)) (sym rest)
    ∙ ap (λ xs. list ++ xs) (sym (filter-append p (c ∷ []) (filter (is_after (Some c)) (children_of t e))))
    ∙ was

pub taking_end : (t : PlainTree) (e tag : ℕ) (list : List ℕ) → IsTaking t e tag list None → list ≡ filter (is_tagged t tag) (children_of t e)
taking_end t e tag list was = sym (append-nil list) ∙ was

-- a child is before the end, and the next one after it
abbrev pub children_ahead : ℕ → Option ℕ → ℕ
children_ahead n next = option_map_or (λ child. n - child) next 0

pub ahead_falls : (n c : ℕ) (next : Option ℕ) → c < n → IfSome next (λ m. ForSome (Some c) (λ child. child < m)) → children_ahead n next < children_ahead n (Some c)
ahead_falls n c None lt later = omega arith
ahead_falls n c (Some m) lt later = omega (arith, later c refl)
