-- The entries of all units of `.debug_info` as one list by offset, and their parents and children (DWARF 5, section 2.3
-- "Relationship of Debugging Information Entries").
use Rattle.std.specs.Prelude.{◌≡◌, ◌↔◌, ◌<◌, ◌≤◌, ◌+◌, ◌^◌, ◌==◌, nat_lt, ℕ, Bool, true, List, [], ◌∷◌, length, map, flat_map, filter, find, position, drop, slice_index_or, Option, Some, None, IsSome}
use Rattle.std.specs.List.{range_with_len, enumerate_from, take_while}
use Rattle.dwarf_forms.specs.declared.values.Value.{Value}
use Rattle.dwarf_units.specs.declared.entry.Entry.{Entry}
use Rattle.dwarf_units.specs.Units.{PlainUnit, entries_of, attribute_of}
use Rattle.dwarf_units.specs.Sequence.{units_of}
use Rattle.dwarf_tree.specs.declared.head.Head.{Head}

-- an entry, with the number of its unit
pub record TreeEntry : Type 0 where
  pub offset : ℕ
  pub depth : ℕ
  pub tag : ℕ
  pub attributes : List (ℕ × Value)
  pub unit : ℕ

-- the fields of unit headers that readers of entries use, and the entries of all units
pub record PlainTree : Type 0 where
  pub units : List Head
  pub entries : List TreeEntry

abbrev pub head_of : PlainUnit → Head
head_of u = record { offset = u.offset; end = u.end; version = u.version; signature = u.signature; type_entry = u.type_entry }

abbrev pub placed : ℕ → Entry → TreeEntry
placed unit e = record { offset = e.offset; depth = e.depth; tag = e.tag; attributes = e.attributes; unit = unit }

-- the entries of the unit with a number
abbrev pub placed_entries : ℕ × PlainUnit → List TreeEntry
placed_entries u = map (placed u.0) (entries_of u.1).items

-- the tree of a section whose units and entries have no fault
unfoldable pub tree_of : List ℕ → List ℕ → PlainTree
tree_of info abbrevs = record {
  units = map head_of (units_of info abbrevs).items;
  entries = flat_map placed_entries (enumerate_from 0 (units_of info abbrevs).items);
}

-- ---- look-ups; past the end they give an entry without attributes

abbrev pub no_entry : TreeEntry
no_entry = record { offset = 0; depth = 0; tag = 0; attributes = []; unit = 0 }

-- the entry at a position
abbrev pub entry_at : PlainTree → ℕ → TreeEntry
entry_at t e = slice_index_or t.entries e no_entry

abbrev pub depth_at : PlainTree → ℕ → ℕ
depth_at t e = (entry_at t e).depth

-- the header of the unit with this number
abbrev pub no_head : Head
no_head = record { offset = 0; end = 0; version = 0; signature = None; type_entry = 0 }

abbrev pub head_at : PlainTree → ℕ → Head
head_at t k = slice_index_or t.units k no_head

-- the first value of an attribute of an entry itself
abbrev pub own_of : PlainTree → ℕ → ℕ → Option Value
own_of t e name = attribute_of (entry_at t e).attributes name

-- the position of the entry at an offset
unfoldable pub entry_of : PlainTree → ℕ → Option ℕ
entry_of t offset = position (λ e. e.offset == offset) t.entries

-- the position of the root of a unit, which is its first entry
unfoldable pub root_of : PlainTree → ℕ → Option ℕ
root_of t unit = position (λ e. e.unit == unit) t.entries

-- ---- children

-- the number of entries in an entry's subtree: those after it, up to the next one that is no deeper
unfoldable pub count_below : PlainTree → ℕ → ℕ
count_below t e = length (take_while (λ x. nat_lt (depth_at t e) x.depth) (drop (e + 1) t.entries))

-- the positions of the children of an entry: the entries in its subtree that are one deeper
unfoldable pub children_of : PlainTree → ℕ → List ℕ
children_of t e = filter (λ i. depth_at t i == depth_at t e + 1) (range_with_len (e + 1) (count_below t e))

abbrev pub is_after : Option ℕ → ℕ → Bool
is_after None i = true
is_after (Some child) i = nat_lt child i

-- the first child of an entry, or the next one after a position
abbrev pub next_child_of : PlainTree → ℕ → Option ℕ → Option ℕ
next_child_of t e after = find (is_after after) (children_of t e)

-- a child and those after it
abbrev pub from_child : PlainTree → ℕ → Option ℕ → List ℕ
from_child t e None = []
from_child t e (Some child) = child ∷ filter (is_after (Some child)) (children_of t e)

-- whether an entry has a tag
abbrev pub is_tagged : PlainTree → ℕ → ℕ → Bool
is_tagged t tag e = (entry_at t e).tag == tag

-- ---- the invariants of the tree of a section without a fault

-- Offsets of entries ascend, and none is 0. Each entry is at most one deeper than the one before it. Units are numbered from 0 in
-- order, and the entries of depth 0 are their roots. Each type unit has an entry at its type offset.
pub record IsOrdered (t : PlainTree) : Type 0 where
  pub count : length t.entries < 2 ^ 32
  pub positive : (i : ℕ) → i < length t.entries → 0 < (entry_at t i).offset
  pub offsets : (i j : ℕ) → i < j → j < length t.entries → (entry_at t i).offset < (entry_at t j).offset
  pub depths : (i : ℕ) → depth_at t (i + 1) ≤ depth_at t i + 1
  pub units : (i j : ℕ) → i < j → j < length t.entries → (entry_at t i).unit ≤ (entry_at t j).unit
  pub known : (i : ℕ) → i < length t.entries → (entry_at t i).unit < length t.units
  pub roots : (k : ℕ) → k < length t.units → IsSome (root_of t k)
  pub tops : (i : ℕ) → i < length t.entries → (depth_at t i ≡ 0) ↔ (root_of t (entry_at t i).unit ≡ Some i)
  pub types : (k : ℕ) (s : ℕ) → (head_at t k).signature ≡ Some s → IsSome (entry_of t (head_at t k).type_entry)
