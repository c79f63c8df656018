-- What is compared between two nodes that an alike line names: their labels, and their views, where each node that a part names is
-- replaced by its class.
use Rattle.std.specs.Prelude.{◌≡◌, ◌<◌, ◌==◌, ◌&&◌, ℕ, Bool, true, false, List, length, Some}
use Rattle.std.specs.Bool.{beq}
use Rattle.std.specs.Str.{bytes_eq}
use Rattle.abi_types.specs.declared.kind.LabelKind.{LabelKind}
use Rattle.abi_types.specs.declared.kind.LabelKind.TheVariants as label
use Rattle.abi_types.specs.Types.{PlainPart, Member, Enumerator, Target, Element, Outcome, Param, PlainView, PlainLabel, PlainNode}
use Rattle.abi_types.specs.Graphs.{to_of}
use Rattle.pair_rules.specs.Same.{same_kind, same_group}

abbrev pub same_label_kind : LabelKind → LabelKind → Bool
same_label_kind label.Structure label.Structure = true
same_label_kind label.Union label.Union = true
same_label_kind label.Enumeration label.Enumeration = true
same_label_kind label.Typedef label.Typedef = true
same_label_kind label.Builtin label.Builtin = true
same_label_kind one other = false

abbrev pub same_label : PlainLabel → PlainLabel → Bool
same_label one other = same_label_kind one.kind other.kind && bytes_eq one.name other.name

-- two parts are equal except for the nodes that they name, and these are of one class
abbrev pub same_part : (ℕ → ℕ) → PlainPart → PlainPart → Bool
same_part class (Member name bit width to) (Member name' bit' width' to') = bytes_eq name name' && bit == bit' && width == width' && class to == class to'
same_part class (Enumerator name value) (Enumerator name' value') = bytes_eq name name' && value == value'
same_part class (Target to) (Target to') = class to == class to'
same_part class (Element to) (Element to') = class to == class to'
same_part class (Outcome to) (Outcome to') = class to == class to'
same_part class (Param to) (Param to') = class to == class to'
same_part class one other = false

-- two views are equal except for their parts and calls
abbrev pub same_heads : PlainView → PlainView → Bool
same_heads v w = same_kind v.kind w.kind && same_group v.group w.group && beq v.declared_only w.declared_only && beq v.variadic w.variadic && bytes_eq v.tag w.tag && v.size == w.size && v.align == w.align && v.count == w.count

-- the node that the part names, if it names one, is in the graph
abbrev pub NamesInside : List PlainNode → PlainPart → Type 0
NamesInside nodes part = (to : ℕ) → to_of part ≡ Some to → to < length nodes
