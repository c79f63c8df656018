-- What a list contains, and facts of all pairs of a list, item by item.
use Rattle.std.proofs.Common.{◌≡◌, ◌<◌, zero, suc, List, [], ◌∷◌, ◌++◌, length, get_or, map, ◌⊎◌, inl, inr, subst, arith}
use Rattle.std.specs.List.{AllPairs, Contains}
use Rattle.std.proofs.lemmas.List.Elements.{Contains-get_or, Contains-append_left, Contains-append_right, Contains-push, Contains-push_cases, Contains-append_cases}
use Rattle.abi_base.proofs.lemmas.Contained.{in_none, in_front, at_front, in_rest, in_one, in_map, in_map_cases}

-- ---- pairs

pub pairs_none : {X : Type 0} (R : X → X → Type 0) → AllPairs R []
pairs_none R i j d less below = absurd (omega arith)

pub pairs_head : {X : Type 0} (R : X → X → Type 0) (x : X) (xs : List X) → AllPairs R (x ∷ xs) → (y : X) → Contains xs y → R x y
pairs_head R x xs all y there = subst (λ v. R x v) there.2 (all 0 (suc there.0) y (omega arith) (let below : there.0 < length xs = there.1 in omega arith))

pub pairs_tail : {X : Type 0} (R : X → X → Type 0) (x : X) (xs : List X) → AllPairs R (x ∷ xs) → AllPairs R xs
pairs_tail R x xs all i j d less below = all (suc i) (suc j) d (omega arith) (omega arith)

pub pairs_cons : {X : Type 0} (R : X → X → Type 0) (x : X) (xs : List X) → ((y : X) → Contains xs y → R x y) → AllPairs R xs → AllPairs R (x ∷ xs)
pairs_cons R x xs head tail zero zero d less below = absurd (omega arith)
pairs_cons R x xs head tail zero (suc j) d less below = head (get_or xs j d) (Contains-get_or xs j d (omega arith))
pairs_cons R x xs head tail (suc i) zero d less below = absurd (omega arith)
pairs_cons R x xs head tail (suc i) (suc j) d less below = tail i j d (omega arith) (omega arith)

pub pairs_append : {X : Type 0} (R : X → X → Type 0) (xs ys : List X) → AllPairs R xs → AllPairs R ys → ((x y : X) → Contains xs x → Contains ys y → R x y) → AllPairs R (xs ++ ys)
pairs_append R [] ys first second between = second
pairs_append R (x ∷ xs) ys first second between =
    pairs_cons R x (xs ++ ys)
    (λ y there. elim (Contains-append_cases xs ys y there) [ inl here ↦ pairs_head R x xs first y here | inr behind ↦ between x y (at_front x xs) behind ])
    (pairs_append R xs ys (pairs_tail R x xs first) second (λ v w here behind. between v w (in_rest x xs v here) behind))

pub pairs_map : {X Y : Type 0} (R : Y → Y → Type 0) (f : X → Y) (xs : List X) → AllPairs (λ a b. R (f a) (f b)) xs → AllPairs R (map f xs)
pairs_map R f [] all = pairs_none R
pairs_map R f (x ∷ xs) all =
    pairs_cons R (f x) (map f xs)
    (λ y there. let found = in_map_cases f xs y there in subst (λ v. R (f x) v) found.2 (pairs_head (λ a b. R (f a) (f b)) x xs all found.0 found.1))
    (pairs_map R f xs (pairs_tail (λ a b. R (f a) (f b)) x xs all))

-- one item
pub pairs_one : {X : Type 0} (R : X → X → Type 0) (x : X) → AllPairs R (x ∷ [])
pairs_one R x = pairs_cons R x [] (λ y there. absurd (in_none y there)) (pairs_none R)

-- a stronger fact of items that the list contains
pub pairs_stronger : {X : Type 0} (R S : X → X → Type 0) (xs : List X) → ((x y : X) → Contains xs x → Contains xs y → R x y → S x y) → AllPairs R xs → AllPairs S xs
pairs_stronger R S xs gives all i j d less below =
    let inside : i < length xs = omega arith in
    gives (get_or xs i d) (get_or xs j d) (Contains-get_or xs i d inside) (Contains-get_or xs j d below) (all i j d less below)
