-- Lists that are made from others.
use Rattle.std.proofs.Common.{List, [], ◌∷◌, inl, inr, zero, suc, sym, subst, arith, ◌≡◌, ◌<◌, ◌+◌, ℕ, ◌∙◌, Bool, true, length, get_or, refl, ◌++◌, slice_get, Option, Some, None}
use Rattle.std.specs.Prelude.{Contains, flat_map, filter_map}
use Rattle.std.proofs.lemmas.List.Elements.{Contains-append_cases, Contains-append_left, Contains-append_right}
use Rattle.abi_base.proofs.lemmas.Contained.{at_front, in_rest, in_none}
use Rattle.std.specs.List.{range_with_len, list_any}
use Rattle.std.proofs.lemmas.List.FromFn.{get_or-range_with_len, length-range_with_len}
use Rattle.std.proofs.lemmas.Bool.{cases_Bool}
use Rattle.abi_base.specs.Lists.{with_first, firsts_after}
use Rattle.std.proofs.lemmas.Option.{none-some}

pub from_flat_map : {X Y : Type 0} (f : X → List Y) (xs : List X) (y : Y) → Contains (flat_map f xs) y → (x : X) × Contains xs x × Contains (f x) y
from_flat_map f [] y there = absurd (in_none y there)
from_flat_map f (x ∷ xs) y there = elim (Contains-append_cases (f x) (flat_map f xs) y there) [
  | inl here ↦ (x, at_front x xs, here)
  | inr later ↦ let on = from_flat_map f xs y later in (on.0, in_rest x xs on.0 on.1, on.2)
]

pub in_flat_map : {X Y : Type 0} (f : X → List Y) (xs : List X) (x : X) (y : Y) → Contains xs x → Contains (f x) y → Contains (flat_map f xs) y
in_flat_map f [] x y there at = absurd (in_none x there)
in_flat_map f (z ∷ xs) x y (zero, lt, is) at = Contains-append_left (f z) (flat_map f xs) y (subst (λ w. Contains (f w) y) (sym is) at)
in_flat_map f (z ∷ xs) x y (suc k, lt, is) at = Contains-append_right (f z) (flat_map f xs) y (in_flat_map f xs x y (k, omega (arith, lt), is) at)

pub from_range : (n k : ℕ) → Contains (range_with_len 0 n) k → k < n
from_range n k (j, lt, is) =
    let many = length-range_with_len 0 n in
    let inside : j < n = omega (arith, lt, many) in
    let same : k ≡ 0 + j = sym is ∙ get_or-range_with_len 0 n j k inside in
    omega (arith, same, inside)

pub any_is : {X : Type 0} (p : X → Bool) (xs : List X) (i : ℕ) (d : X) → i < length xs → p (get_or xs i d) ≡ true → list_any p xs ≡ true
any_is p [] i d inside here = absurd (omega (arith, inside))
any_is p (x ∷ xs) zero d inside here = rw here refl
any_is p (x ∷ xs) (suc i) d inside here = elim (cases_Bool (p x)) [
  | inl first ↦ rw first refl
  | inr other ↦ rw other (any_is p xs i d (omega (arith, inside)) here)
]

pub firsts_after-more : {X : Type 0} (same : X → X → Bool) (kept xs : List X) (x : X) → firsts_after same kept (xs ++ x ∷ []) ≡ with_first same (firsts_after same kept xs) x
unfolding firsts_after
firsts_after-more same kept [] x = refl
firsts_after-more same kept (y ∷ xs) x = firsts_after-more same (with_first same kept y) xs x

pub same_pair : (line : ℕ × ℕ) (n m : ℕ) → line.0 ≡ n → line.1 ≡ m → line ≡ (n, m)
same_pair line n m a b = rw (← a, ← b) refl

-- what is given comes from some item
pub record IsGiven {X Y : Type 0} (f : X → Option Y) (xs : List X) (y : Y) : Type 0 where
  pub place : ℕ
  pub item : X
  pub at : slice_get xs place ≡ Some item
  pub gives : f item ≡ Some y

given_later : {X Y : Type 0} (f : X → Option Y) (x : X) (xs : List X) (y : Y) → IsGiven f xs y → IsGiven f (x ∷ xs) y
given_later f x xs y is = record { place = suc is.place; item = is.item; at = is.at; gives = is.gives }

given_with : {X Y : Type 0} (f : X → Option Y) (x : X) (xs : List X) (y : Y) (o : Option Y) → f x ≡ o → (j : ℕ) → ((i : ℕ) → slice_get (filter_map f xs) i ≡ Some y → IsGiven f xs y) → slice_get (filter_map f (x ∷ xs)) j ≡ Some y → IsGiven f (x ∷ xs) y
given_with f x xs y None is j later e = given_later f x xs y (later j (rw is at e))
given_with f x xs y (Some z) is zero later e = record { place = 0; item = x; at = refl; gives = is ∙ (rw is at e) }
given_with f x xs y (Some z) is (suc j) later e = given_later f x xs y (later j (rw is at e))

pub filter_map-given : {X Y : Type 0} (f : X → Option Y) (xs : List X) (j : ℕ) (y : Y) → slice_get (filter_map f xs) j ≡ Some y → IsGiven f xs y
filter_map-given f [] j y e = absurd (none-some y e)
filter_map-given f (x ∷ xs) j y e = given_with f x xs y (f x) refl j (λ i. filter_map-given f xs i y) e
