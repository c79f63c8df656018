-- Comparisons of kinds, groups and places.
use Rattle.std.specs.Prelude.{ℕ, Bool, true, false, ◌==◌, ◌&&◌, List}
use Rattle.std.specs.Cmp.Lexicographic.{pointwise}
use Rattle.abi_types.specs.declared.kind.Kind.{Kind}
use Rattle.abi_types.specs.declared.kind.Kind.TheVariants as kind
use Rattle.abi_types.specs.declared.kind.Group.{Group}
use Rattle.abi_types.specs.declared.kind.Group.TheVariants as group
use Rattle.abi_types.specs.declared.place.Place.{Place}
use Rattle.abi_types.specs.declared.place.Place.TheVariants as place
use Rattle.abi_types.specs.declared.place.Slot.{Slot}
use Rattle.abi_types.specs.declared.place.Slot.TheVariants as slot

-- each kind and each group has its own number
abbrev pub kind_number : Kind → ℕ
kind_number kind.Void = 0
kind_number kind.Scalar = 1
kind_number kind.Pointer = 2
kind_number kind.Enumeration = 3
kind_number kind.Structure = 4
kind_number kind.Union = 5
kind_number kind.Array = 6
kind_number kind.Vector = 7
kind_number kind.Function = 8

abbrev pub same_kind : Kind → Kind → Bool
same_kind a b = kind_number a == kind_number b

abbrev pub group_number : Group → ℕ
group_number group.Bool = 0
group_number group.Signed = 1
group_number group.Unsigned = 2
group_number group.Float = 3
group_number group.Quad = 4
group_number group.Complex = 5
group_number group.Decimal = 6

abbrev pub same_group : Group → Group → Bool
same_group a b = group_number a == group_number b

abbrev pub same_slot : Slot → Slot → Bool
same_slot slot.Unused slot.Unused = true
same_slot (slot.General m) (slot.General n) = m == n
same_slot (slot.Vector m) (slot.Vector n) = m == n
same_slot (slot.Upper m) (slot.Upper n) = m == n
same_slot (slot.X87 m) (slot.X87 n) = m == n
same_slot a b = false

abbrev pub same_slots : List Slot → List Slot → Bool
same_slots = pointwise same_slot

abbrev pub same_place : Place → Place → Bool
same_place place.Nothing place.Nothing = true
same_place (place.Registers a) (place.Registers b) = same_slots a b
same_place (place.Stack at m) (place.Stack from n) = at == from && m == n
same_place place.Hidden place.Hidden = true
same_place a b = false
