-- Packed structures, as the positions of their members show: at least one member that is not a bit field does not stand at a
-- multiple of its alignment (psABI, section 3.1.2 "Data Representation", "Aggregates and Unions").
use Rattle.std.specs.Prelude.{ℕ, ◌*◌, ◌%◌, ◌==◌, Bool, false, not, ◌&&◌, if◌then◌else◌, List, length, map, Option, codes}
use Rattle.std.specs.List.{list_any, range_with_len}
use Rattle.abi_types.specs.Graphs.{view_at}
use Rattle.abi_types.specs.Types.{PlainPart, Member, PlainNode}
use Rattle.psabi.specs.Alignment.{align_of}
use Rattle.type_notes.specs.declared.note.NoteKind.TheVariants as note
use Rattle.type_notes.specs.declared.difference.Difference.{Difference}
use Rattle.type_notes.specs.Differences.{differing}

-- an object with this alignment in bytes may not begin at this bit
abbrev pub is_off : ℕ → ℕ → Bool
is_off bit align = if align == 0 then false else not (bit % (8 * align) == 0)

-- a member is not a bit field, and does not stand at a multiple of its alignment
abbrev pub stands_off : List PlainNode → PlainPart → Bool
stands_off nodes (Member name bit width to) = width == 0 && is_off bit (align_of nodes to)
stands_off nodes other = false

abbrev pub is_packed : List PlainNode → ℕ → Bool
is_packed nodes i = list_any (stands_off nodes) (view_at nodes i).parts

-- whether each node is packed
abbrev pub packed_nodes : List PlainNode → List Bool
packed_nodes nodes = map (is_packed nodes) (range_with_len 0 (length nodes))

abbrev pub packing_text : List PlainNode → ℕ → List ℕ
packing_text nodes i = if is_packed nodes i then codes "packed" else codes "none"

-- whether each of two types is packed, if only one of them is
unfoldable pub packing_change : List PlainNode → List PlainNode → ℕ → ℕ → Option Difference
packing_change old new i j = differing note.Packing (packing_text old i) (packing_text new j)
