-- What stands in lists that a function gives of the items of another one.
use Rattle.std.proofs.Common.{◌≡◌, List, [], ◌∷◌, map, refl, subst, inl, inr}
use Rattle.std.specs.Prelude.{flat_map, Contains}
use Rattle.std.proofs.lemmas.List.Elements.{Contains-append_cases}
use Rattle.abi_base.proofs.lemmas.Contained.{in_front, at_front, in_rest, in_none}

-- what the function gives of an item stands there
pub Contains-map : {X Y : Type 0} (g : X → Y) (xs : List X) (x : X) → Contains xs x → Contains (map g xs) (g x)
Contains-map g [] x h = absurd (in_none x h)
Contains-map g (y ∷ ys) x h = elim (in_front y ys x h) [
  | inl same ↦ subst (λ z. Contains (g y ∷ map g ys) (g z)) same (at_front (g y) (map g ys))
  | inr later ↦ in_rest (g y) (map g ys) (g x) (Contains-map g ys x later)
]

-- each item there is what the function gives of one
pub from_map : {X Y : Type 0} (g : X → Y) (xs : List X) (y : Y) → Contains (map g xs) y → (x : X) × Contains xs x × (g x ≡ y)
from_map g [] y h = absurd (in_none y h)
from_map g (x ∷ xs) y h = elim (in_front (g x) (map g xs) y h) [
  | inl same ↦ (x, at_front x xs, same)
  | inr later ↦ let r = from_map g xs y later in (r.0, in_rest x xs r.0 r.1, r.2)
]

-- functions that give the same of each item give the same list
pub map-same : {X Y : Type 0} (f g : X → Y) (xs : List X) → ((x : X) → Contains xs x → f x ≡ g x) → map f xs ≡ map g xs
map-same f g [] same = refl
map-same f g (x ∷ xs) same =
    let here = same x (at_front x xs) in
    let later = map-same f g xs (λ y h. same y (in_rest x xs y h)) in
    rw (here, later) refl

-- each item there stands in a list that the function gives of one
pub from_flat_map : {X Y : Type 0} (f : X → List Y) (xs : List X) (y : Y) → Contains (flat_map f xs) y → (x : X) × Contains xs x × Contains (f x) y
from_flat_map f [] y h = absurd (in_none y h)
from_flat_map f (x ∷ xs) y h = elim (Contains-append_cases (f x) (flat_map f xs) y h) [
  | inl here ↦ (x, at_front x xs, here)
  | inr later ↦ let r = from_flat_map f xs y later in (r.0, in_rest x xs r.0 r.1, r.2)
]
