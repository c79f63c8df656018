-- New members of structures that stand where the old structure has no member: in a hole, or in the padding after the last member.
use Rattle.std.specs.Prelude.{ℕ, ◌+◌, ◌*◌, Bool, true, false, not, max, min, nat_lt, nat_le, ◌&&◌, if◌then◌else◌, is_none, List, [], ◌∷◌, codes, decimal}
use Rattle.std.specs.List.{concat, flat_map, list_any}
use Rattle.abi_types.specs.declared.kind.Kind.{Kind}
use Rattle.abi_types.specs.declared.kind.Kind.TheVariants as kind
use Rattle.abi_types.specs.Graphs.{view_at}
use Rattle.abi_types.specs.Parts.{like, place_of}
use Rattle.abi_types.specs.Shown.{shown}
use Rattle.abi_types.specs.Types.{PlainPart, Member, PlainView, PlainNode}
use Rattle.type_notes.specs.declared.note.NoteKind.TheVariants as note
use Rattle.type_notes.specs.declared.difference.Difference.{Difference}
use Rattle.type_notes.specs.declared.padding.Bits.{Bits}

abbrev pub is_structure_kind : Kind → Bool
is_structure_kind kind.Structure = true
is_structure_kind other = false

-- the bits in a member: the width of a bit field, or the size of its type
abbrev pub bits_in : List PlainNode → ℕ → ℕ → ℕ
bits_in nodes width to = if nat_lt 0 width then width else (view_at nodes to).size * 8

-- the bits of a member
abbrev pub bits_of : List PlainNode → PlainPart → Bits
bits_of nodes (Member name bit width to) = record { from = bit; to = bit + bits_in nodes width to }
bits_of nodes other = record { from = 0; to = 0 }

-- the ranges have a bit in common
abbrev pub share : Bits → Bits → Bool
share a b = nat_lt (max a.from b.from) (min a.to b.to)

-- no member of the structure has one of the bits
abbrev pub is_free : List PlainNode → PlainView → Bits → Bool
is_free nodes v bits = not (list_any (λ p. share bits (bits_of nodes p)) v.parts)

-- the range is not empty, and ends within the size in bytes
abbrev pub lies_inside : Bits → ℕ → Bool
lies_inside bits size = nat_lt bits.from bits.to && nat_le bits.to (size * 8)

-- A member of the new structure that the old one does not have by name. Its bits lie inside the old structure, and no old member
-- has one of them.
unfoldable pub fills : List PlainNode → List PlainNode → PlainView → PlainPart → Bool
fills old new v p = is_none (place_of (like p) 0 v.parts) && (lies_inside (bits_of new p) v.size && is_free old v (bits_of new p))

-- a member by its name and its first bit
abbrev pub member_text : PlainPart → List ℕ
member_text (Member name bit width to) = concat (codes "member " ∷ shown name ∷ codes " at bit " ∷ decimal bit ∷ [])
member_text other = []

abbrev pub member_change : PlainPart → Difference
member_change p = record { kind = note.MemberInPadding; was = codes "none"; is = member_text p }

abbrev pub part_changes : List PlainNode → List PlainNode → PlainView → PlainPart → List Difference
part_changes old new v p = if fills old new v p then member_change p ∷ [] else []

abbrev pub is_structure : PlainView → Bool
is_structure v = is_structure_kind v.kind

-- the differences of two structures, in order of the new members
unfoldable pub padding_changes : List PlainNode → List PlainNode → PlainView → PlainView → List Difference
padding_changes old new v w = if is_structure v && is_structure w then flat_map (part_changes old new v) w.parts else []
