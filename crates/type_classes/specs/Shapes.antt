-- Shapes of nodes, spelled as numbers and letters. Two shapes are equal exactly if their spellings are.
use Rattle.std.specs.Prelude.{ℕ, ◌+◌, ◌*◌, ◌++◌, Bool, List, [], ◌∷◌, length, flat_map, if◌then◌else◌}
use Rattle.abi_types.specs.declared.kind.Kind.{Kind}
use Rattle.abi_types.specs.declared.kind.Group.{Group}
use Rattle.abi_types.specs.declared.kind.LabelKind.{LabelKind}
use Rattle.abi_types.specs.declared.kind.LabelKind.TheVariants as label
use Rattle.abi_types.specs.declared.place.Slot.{Slot}
use Rattle.abi_types.specs.declared.place.Slot.TheVariants as slot
use Rattle.abi_types.specs.declared.place.Place.{Place}
use Rattle.abi_types.specs.declared.place.Place.TheVariants as place
use Rattle.abi_types.specs.declared.place.CallShape.{CallShape}
use Rattle.abi_types.specs.Types.{PlainPart, Member, Enumerator, Target, Element, Outcome, Param, PlainView, PlainLabel}
use Rattle.abi_types.specs.ClassLooks.{Look}
use Rattle.pair_rules.specs.Same.{kind_number, group_number}

-- each kind of label has its own number
abbrev pub label_number : LabelKind → ℕ
label_number label.Structure = 0
label_number label.Union = 1
label_number label.Enumeration = 2
label_number label.Typedef = 3
label_number label.Builtin = 4

abbrev pub truth_number : Bool → ℕ
truth_number b = if b then 1 else 0

-- the number of items, then each of them
unfoldable pub spelled_list : {X : Type 0} → (X → List ℕ) → List X → List ℕ
spelled_list f xs = length xs ∷ flat_map f xs

abbrev pub spelled_number : ℕ → List ℕ
spelled_number n = n ∷ []

-- each slot has its own number
abbrev pub slot_number : Slot → ℕ
slot_number slot.Unused = 0
slot_number (slot.General n) = 5 * n + 1
slot_number (slot.Vector n) = 5 * n + 2
slot_number (slot.Upper n) = 5 * n + 3
slot_number (slot.X87 n) = 5 * n + 4

abbrev pub spelled_slot : Slot → List ℕ
spelled_slot s = slot_number s ∷ []

unfoldable pub spelled_place : Place → List ℕ
spelled_place place.Nothing = 0 ∷ []
spelled_place (place.Registers eightbytes) = 1 ∷ spelled_list spelled_slot eightbytes
spelled_place (place.Stack offset size) = 2 ∷ offset ∷ size ∷ []
spelled_place place.Hidden = 3 ∷ []

unfoldable pub spelled_call : CallShape → List ℕ
spelled_call c = spelled_place c.outcome ++ spelled_list spelled_place c.params

-- a part without the node that it names, and with only the length of its name
unfoldable pub spelled_part : PlainPart → List ℕ
spelled_part (Member name bit width to) = 0 ∷ length name ∷ bit ∷ width ∷ []
spelled_part (Enumerator name value) = 1 ∷ length name ∷ value ∷ []
spelled_part (Target to) = 2 ∷ []
spelled_part (Element to) = 3 ∷ []
spelled_part (Outcome to) = 4 ∷ []
spelled_part (Param to) = 5 ∷ []

abbrev pub spelled_label : PlainLabel → List ℕ
spelled_label l = label_number l.kind ∷ length l.name ∷ []

-- each combination of kind, group and two flags has its own number
abbrev pub head_number : Kind → Group → Bool → Bool → ℕ
head_number kind group declared_only variadic = kind_number kind + 9 * group_number group + 63 * truth_number declared_only + 126 * truth_number variadic

-- the numbers of a view
abbrev pub spelled_numbers : PlainView → List ℕ
spelled_numbers v = head_number v.kind v.group v.declared_only v.variadic ∷ v.size ∷ v.align ∷ v.count ∷ length v.tag ∷ []

unfoldable pub spelled_view : PlainView → List ℕ
spelled_view v = spelled_numbers v ++ spelled_list spelled_part v.parts ++ spelled_call v.call

unfoldable pub spelled : Look → List ℕ
spelled l = spelled_list spelled_label l.labels ++ spelled_view l.view

-- ---- the letters of the names, one name after the other

abbrev pub letters_of_label : PlainLabel → List ℕ
letters_of_label l = l.name

abbrev pub letters_of_part : PlainPart → List ℕ
letters_of_part (Member name bit width to) = name
letters_of_part (Enumerator name value) = name
letters_of_part other = []

unfoldable pub letters_of : Look → List ℕ
letters_of l = flat_map letters_of_label l.labels ++ l.view.tag ++ flat_map letters_of_part l.view.parts
