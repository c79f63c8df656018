-- Unions with a size and no members, as gcc describes a transparent union behind a typedef.
use Rattle.std.specs.Prelude.{ℕ, Bool, true, false, nat_lt, ◌==◌, ◌&&◌, ◌||◌, if◌then◌else◌, List, [], ◌∷◌, length, Option, Some, None, codes, decimal}
use Rattle.std.specs.List.{concat}
use Rattle.abi_types.specs.declared.kind.Kind.{Kind}
use Rattle.abi_types.specs.declared.kind.Kind.TheVariants as kind
use Rattle.abi_types.specs.Types.{PlainView}
use Rattle.type_notes.specs.declared.note.NoteKind.TheVariants as note
use Rattle.type_notes.specs.declared.difference.Difference.{Difference}

abbrev pub is_union : Kind → Bool
is_union kind.Union = true
is_union other = false

-- a union with a size and no members
abbrev pub is_hollow : PlainView → Bool
is_hollow v = is_union v.kind && (nat_lt 0 v.size && length v.parts == 0)

-- a size, and the number of members
abbrev pub counts_text : ℕ → ℕ → List ℕ
counts_text size members = concat (codes "size " ∷ decimal size ∷ codes ", members " ∷ decimal members ∷ [])

-- the size of a type, and the number of its members
abbrev pub union_text : PlainView → List ℕ
union_text v = counts_text v.size (length v.parts)

-- both texts, if one of the types is such a union
abbrev pub union_change : PlainView → PlainView → Option Difference
union_change v w = if is_hollow v || is_hollow w then Some (record { kind = note.UnionWithoutMembers; was = union_text v; is = union_text w }) else None
