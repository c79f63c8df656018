-- Laws of what a list contains.
use Rattle.std.proofs.Common.{ℕ, zero, suc, ap, Bool, sym, true, arith, List, ◌≡◌, ◌∷◌, ◌∙◌, [], inr, inl, ◌⊎◌, refl, ◌<◌, get_or, ◌+◌, length, map}
use Rattle.std.specs.List.{list_all, Contains, range_with_len}
use Rattle.std.proofs.lemmas.Bool.{and_parts}
use Rattle.std.proofs.lemmas.List.FromFn.{get_or-range_with_len, length-range_with_len}
use Rattle.std.proofs.lemmas.List.Sorted.{Contains-permutation}
use Rattle.std.specs.Prelude.{IsPermutation}
use Rattle.std.proofs.lemmas.List.{length-map, get_or-map}
use Rattle.std.proofs.lemmas.List.Elements.{Contains-append_right}

pub list_all_in : {X : Type 0} (p : X → Bool) (xs : List X) (x : X) → list_all p xs ≡ true → Contains xs x → p x ≡ true
list_all_in p [] x all h = absurd (omega (arith, h.1))
list_all_in p (y ∷ ys) x all (zero, lt, is) = ap p (sym is) ∙ (and_parts (p y) (list_all p ys) all).0
list_all_in p (y ∷ ys) x all (suc k, lt, is) = list_all_in p ys x (and_parts (p y) (list_all p ys) all).1 (k, omega (arith, lt), is)

pub in_front : {X : Type 0} (y : X) (ys : List X) (z : X) → Contains (y ∷ ys) z → (y ≡ z) ⊎ Contains ys z
in_front y ys z (zero, lt, is) = inl is
in_front y ys z (suc k, lt, is) = inr (k, omega (arith, lt), is)

pub in_rest : {X : Type 0} (y : X) (ys : List X) (z : X) → Contains ys z → Contains (y ∷ ys) z
in_rest y ys z (k, lt, is) = (suc k, omega (arith, lt), is)

pub at_front : {X : Type 0} (y : X) (ys : List X) → Contains (y ∷ ys) y
at_front y ys = (0, omega arith, refl)

pub in_none : {X : Type 0} (x : X) → Contains [] x → ⊥
in_none x (k, inside, at) = omega arith

pub in_range : (n i : ℕ) → i < n → Contains (range_with_len 0 n) i
in_range n i below = (i, omega (arith, length-range_with_len 0 n), get_or-range_with_len 0 n i i below ∙ omega arith)

pub in_permutation : (n : ℕ) (places : List ℕ) (k : ℕ) → IsPermutation (range_with_len 0 n) places → k < n → Contains places k
in_permutation n places k moved inside =
    let here : get_or (range_with_len 0 n) k k ≡ 0 + k = get_or-range_with_len 0 n k k inside in
    Contains-permutation (range_with_len 0 n) places k moved (k, rw (length-range_with_len 0 n) inside, omega (arith, here))

pub in_one : {X : Type 0} (x y : X) → Contains (x ∷ []) y → x ≡ y
in_one x y (zero, lt, is) = is
in_one x y (suc k, lt, is) = absurd (omega (arith, lt))

pub in_map : {X Y : Type 0} (f : X → Y) (xs : List X) (x : X) → Contains xs x → Contains (map f xs) (f x)
in_map f xs x (k, lt, is) =
    let lt' : k < length (map f xs) = rw (length-map xs f) lt in
    (k, lt', get_or-map f xs k x (f x) lt ∙ ap f is)

pub in_map_cases : {X Y : Type 0} (f : X → Y) (xs : List X) (y : Y) → Contains (map f xs) y → (x : X) × Contains xs x × (f x ≡ y)
in_map_cases f [] y (k, lt, is) = absurd (omega (arith, lt))
in_map_cases f (x ∷ xs) y (zero, lt, is) = (x, (0, omega arith, refl), is)
in_map_cases f (x ∷ xs) y (suc k, lt, is) =
    let later = in_map_cases f xs y (k, omega (arith, lt), is) in
    (later.0, Contains-append_right (x ∷ []) xs later.0 later.1, later.2)
