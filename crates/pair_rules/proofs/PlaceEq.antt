-- A comparison of places answers whether they are the same.
use Rattle.std.proofs.Common.{◌≡◌, List, [], ◌∷◌, refl}
use Rattle.std.specs.Cmp.Lexicographic.{pointwise}
use Rattle.abi_types.specs.declared.place.Place.{Place}
use Rattle.abi_types.specs.declared.place.Place.TheVariants as place
use Rattle.abi_types.specs.declared.place.Slot.{Slot}
use Rattle.abi_types.specs.declared.place.Slot.TheVariants as slot
use Rattle.abi_types.specs.contracts.place.SlotPartialEq.TheImpl as slots
use Rattle.abi_types.specs.contracts.place.PlacePartialEq.TheImpl as places
use Rattle.pair_rules.specs.Same.{same_slot, same_place}

eq-same_slot : (a b : Slot) → (slots.ghosts).eq a b ≡ same_slot a b
eq-same_slot slot.Unused slot.Unused = refl
eq-same_slot (slot.General m) (slot.General n) = refl
eq-same_slot (slot.Vector m) (slot.Vector n) = refl
eq-same_slot (slot.Upper m) (slot.Upper n) = refl
eq-same_slot (slot.X87 m) (slot.X87 n) = refl
eq-same_slot a b = refl

pointwise-same : (xs ys : List Slot) → pointwise (slots.ghosts).eq xs ys ≡ pointwise same_slot xs ys
pointwise-same [] [] = refl
pointwise-same [] (y ∷ ys) = refl
pointwise-same (x ∷ xs) [] = refl
pointwise-same (x ∷ xs) (y ∷ ys) = rw (eq-same_slot x y, pointwise-same xs ys) refl

pub eq-same_place : (a b : Place) → (places.ghosts).eq a b ≡ same_place a b
eq-same_place place.Nothing place.Nothing = refl
eq-same_place place.Hidden place.Hidden = refl
eq-same_place (place.Registers a) (place.Registers b) = pointwise-same a b
eq-same_place (place.Stack at m) (place.Stack from n) = refl
eq-same_place a b = refl
