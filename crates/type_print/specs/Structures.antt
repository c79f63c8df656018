-- The members of a structure in a graph, and the structures with a tag.
use Rattle.std.specs.Prelude.{◌≡◌, ◌<◌, ◌≤◌, ◌*◌, ◌==◌, ◌&&◌, ℕ, Bool, true, false, not, if◌then◌else◌, List, length, map}
use Rattle.std.specs.List.{range_with_len}
use Rattle.std.specs.Str.{bytes_eq}
use Rattle.abi_types.specs.declared.kind.Kind.{Kind}
use Rattle.abi_types.specs.declared.kind.Kind.TheVariants as kind
use Rattle.abi_types.specs.Types.{PlainPart, Member, PlainView, PlainNode}
use Rattle.abi_types.specs.Graphs.{node_at, part_at, view_at}
use Rattle.type_print.specs.declared.extent.Extent.{Extent}
use Rattle.type_print.specs.declared.row.LayoutRow.{LayoutRow}
use Rattle.type_print.specs.Rows.{AreRows}

-- the size of a type in bits
abbrev pub bits_of : PlainView → ℕ
bits_of v = 8 * v.size

-- the width of a member in bits: that of a bit field, else that of its type
abbrev pub width_in : List PlainNode → ℕ → ℕ → ℕ
width_in nodes width to = if width == 0 then bits_of (view_at nodes to) else width

abbrev pub extent_in : List PlainNode → ℕ → PlainPart → Extent
extent_in nodes position (Member name bit width to) = record { part = position; bit = bit; width = width_in nodes width to }
extent_in nodes position other = record { part = position; bit = 0; width = 0 }

-- the bits of each member of a structure
unfoldable pub members_of : List PlainNode → PlainView → List Extent
members_of nodes v = map (λ k. extent_in nodes k (part_at v k)) (range_with_len 0 (length v.parts))

-- ---- a node's structure

abbrev pub members_at : List PlainNode → ℕ → List Extent
members_at nodes number = members_of nodes (view_at nodes number)

abbrev pub bits_at : List PlainNode → ℕ → ℕ
bits_at nodes number = bits_of (view_at nodes number)

-- the rows are the layout of the node's structure
abbrev pub AreRowsAt : List PlainNode → ℕ → List LayoutRow → Type 0
AreRowsAt nodes number rows = AreRows (members_at nodes number) (bits_at nodes number) rows

-- ---- tags

abbrev pub is_structure : Kind → Bool
is_structure kind.Structure = true
is_structure other = false

-- the type is a structure with a definition and this tag
abbrev pub has_layout : PlainView → List ℕ → Bool
has_layout v tag = is_structure v.kind && not v.declared_only && bytes_eq v.tag tag

-- the node is one with this tag, and no node with this tag has an earlier entry
pub record IsFirstTagged (nodes : List PlainNode) (tag : List ℕ) (number : ℕ) : Type 0 where
  pub inside : number < length nodes
  pub tagged : has_layout (view_at nodes number) tag ≡ true
  pub first : (i : ℕ) → i < length nodes → has_layout (view_at nodes i) tag ≡ true → (node_at nodes number).entry ≤ (node_at nodes i).entry

-- no node is one with this tag
abbrev pub IsUntagged : List PlainNode → List ℕ → Type 0
IsUntagged nodes tag = (i : ℕ) → i < length nodes → has_layout (view_at nodes i) tag ≡ false
