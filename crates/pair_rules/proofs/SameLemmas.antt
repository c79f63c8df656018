-- The tests for one kind, one group and one place hold exactly where these are equal.
use Rattle.std.proofs.Common.{◌≡◌, true, List, [], ◌∷◌, refl, ap, eqb}
use Rattle.std.proofs.lemmas.Bool.{eq-eqb, eqb-true, and_parts, and_from}
use Rattle.abi_types.specs.declared.kind.Kind.{Kind}
use Rattle.abi_types.specs.declared.kind.Kind.TheVariants as kind
use Rattle.abi_types.specs.declared.kind.Group.{Group}
use Rattle.abi_types.specs.declared.kind.Group.TheVariants as group
use Rattle.abi_types.specs.declared.place.Place.{Place}
use Rattle.abi_types.specs.declared.place.Place.TheVariants as place
use Rattle.abi_types.specs.declared.place.Slot.{Slot}
use Rattle.abi_types.specs.declared.place.Slot.TheVariants as slot
use Rattle.pair_rules.specs.Same.{same_kind, kind_number, same_group, group_number, same_slot, same_slots, same_place}

pub same_kind-same : (a : Kind) → same_kind a a ≡ true
same_kind-same a = eq-eqb (kind_number a) (kind_number a) refl

pub same_group-same : (a : Group) → same_group a a ≡ true
same_group-same a = eq-eqb (group_number a) (group_number a) refl

pub same_slot-same : (a : Slot) → same_slot a a ≡ true
same_slot-same slot.Unused = refl
same_slot-same (slot.General n) = eq-eqb n n refl
same_slot-same (slot.Vector n) = eq-eqb n n refl
same_slot-same (slot.Upper n) = eq-eqb n n refl
same_slot-same (slot.X87 n) = eq-eqb n n refl

pub same_slots-same : (xs : List Slot) → same_slots xs xs ≡ true
same_slots-same [] = refl
same_slots-same (x ∷ xs) = and_from (same_slot x x) (same_slots xs xs) (same_slot-same x) (same_slots-same xs)

pub same_place-same : (a : Place) → same_place a a ≡ true
same_place-same place.Nothing = refl
same_place-same (place.Registers eightbytes) = same_slots-same eightbytes
same_place-same (place.Stack offset size) = and_from (eqb offset offset) (eqb size size) (eq-eqb offset offset refl) (eq-eqb size size refl)
same_place-same place.Hidden = refl

-- ---- what is the same is equal

pub equal_from_same_kind : (a b : Kind) → same_kind a b ≡ true → a ≡ b
equal_from_same_kind kind.Void kind.Void e = refl
equal_from_same_kind kind.Scalar kind.Scalar e = refl
equal_from_same_kind kind.Pointer kind.Pointer e = refl
equal_from_same_kind kind.Enumeration kind.Enumeration e = refl
equal_from_same_kind kind.Structure kind.Structure e = refl
equal_from_same_kind kind.Union kind.Union e = refl
equal_from_same_kind kind.Array kind.Array e = refl
equal_from_same_kind kind.Vector kind.Vector e = refl
equal_from_same_kind kind.Function kind.Function e = refl
equal_from_same_kind a b e = absurd cc

pub equal_from_same_group : (a b : Group) → same_group a b ≡ true → a ≡ b
equal_from_same_group group.Bool group.Bool e = refl
equal_from_same_group group.Signed group.Signed e = refl
equal_from_same_group group.Unsigned group.Unsigned e = refl
equal_from_same_group group.Float group.Float e = refl
equal_from_same_group group.Quad group.Quad e = refl
equal_from_same_group group.Complex group.Complex e = refl
equal_from_same_group group.Decimal group.Decimal e = refl
equal_from_same_group a b e = absurd cc

pub equal_from_same_slot : (a b : Slot) → same_slot a b ≡ true → a ≡ b
equal_from_same_slot slot.Unused slot.Unused e = refl
equal_from_same_slot (slot.General m) (slot.General n) e = ap slot.General (eqb-true m n e)
equal_from_same_slot (slot.Vector m) (slot.Vector n) e = ap slot.Vector (eqb-true m n e)
equal_from_same_slot (slot.Upper m) (slot.Upper n) e = ap slot.Upper (eqb-true m n e)
equal_from_same_slot (slot.X87 m) (slot.X87 n) e = ap slot.X87 (eqb-true m n e)
equal_from_same_slot a b e = absurd cc

pub equal_from_same_slots : (xs ys : List Slot) → same_slots xs ys ≡ true → xs ≡ ys
equal_from_same_slots [] [] e = refl
equal_from_same_slots [] (y ∷ ys) e = absurd cc
equal_from_same_slots (x ∷ xs) [] e = absurd cc
equal_from_same_slots (x ∷ xs) (y ∷ ys) e =
    let both = and_parts (same_slot x y) (same_slots xs ys) e in
    let head = equal_from_same_slot x y both.0 in
    let tail = equal_from_same_slots xs ys both.1 in
    cc

pub equal_from_same_place : (a b : Place) → same_place a b ≡ true → a ≡ b
equal_from_same_place place.Nothing place.Nothing e = refl
equal_from_same_place (place.Registers a) (place.Registers b) e = ap place.Registers (equal_from_same_slots a b e)
equal_from_same_place (place.Stack at m) (place.Stack from n) e =
    let both = and_parts (eqb at from) (eqb m n) e in
    let offset = eqb-true at from both.0 in
    let size = eqb-true m n both.1 in
    cc
equal_from_same_place place.Hidden place.Hidden e = refl
equal_from_same_place a b e = absurd cc
