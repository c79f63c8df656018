-- The handle of a section: the exact name by which it is found, or that it has a pattern for names.
use Rattle.std.specs.Prelude.{◌≡◌, ◌<◌, ◌↔◌, ℕ, List, [], length, map, filter_map, Option, Some, None, slice_index_or, Contains, IsPermutation, IsSorted}
use Rattle.std.specs.List.{range_with_len}
use Rattle.std.specs.Ordering.{nat_cmp, ordering_then}
use Rattle.std.specs.Cmp.Lexicographic.{slice_cmp}
use Rattle.std.specs.declared.cmp.Ordering.{Ordering}
use Rattle.suppression_text.specs.declared.key.Key.TheVariants.{Name, NameRegexp, SymbolName, SymbolNameRegexp}
use Rattle.suppression_text.specs.Rules.{PlainSection, value_in}

-- the number of the kind of handle, and the name
abbrev pub PlainHandle : Type 0
PlainHandle = ℕ × List ℕ

abbrev pub any_handle : PlainHandle
any_handle = (0, [])

abbrev pub gate_handle : PlainHandle
gate_handle = (3, [])

abbrev pub first_value : Option (List ℕ) → Option (List ℕ) → Option (List ℕ)
first_value (Some value) other = Some value
first_value None other = other

-- A pattern that must match a name of what the section matches: its `name_regexp`, or else its `symbol_name_regexp`.
abbrev pub gate_of : PlainSection → Option (List ℕ)
gate_of section = first_value (value_in NameRegexp section) (value_in SymbolNameRegexp section)

-- these patterns of the sections
abbrev pub gates_of : List PlainSection → List (List ℕ)
gates_of sections = filter_map gate_of sections

abbrev pub pattern_handle : Option (List ℕ) → PlainHandle
pattern_handle (Some text) = gate_handle
pattern_handle None = any_handle

abbrev pub symbol_handle : Option (List ℕ) → Option (List ℕ) → PlainHandle
symbol_handle (Some name) gate = (2, name)
symbol_handle None gate = pattern_handle gate

abbrev pub name_handle : Option (List ℕ) → Option (List ℕ) → Option (List ℕ) → PlainHandle
name_handle (Some name) symbol gate = (1, name)
name_handle None symbol gate = symbol_handle symbol gate

-- the handle of a section: its `name`, or else its `symbol_name`, or else that it has a pattern for names
abbrev pub handle_of : PlainSection → PlainHandle
handle_of section = name_handle (value_in Name section) (value_in SymbolName section) (gate_of section)

abbrev pub handles_of : List PlainSection → List PlainHandle
handles_of sections = map handle_of sections

-- ---- the order of handles

abbrev pub handle_cmp : PlainHandle → PlainHandle → Ordering
handle_cmp one other = ordering_then (nat_cmp one.0 other.0) (slice_cmp nat_cmp one.1 other.1)

abbrev pub handle_at : List PlainHandle → ℕ → PlainHandle
handle_at handles k = slice_index_or handles k any_handle

abbrev pub place_cmp : List PlainHandle → ℕ → ℕ → Ordering
place_cmp handles a b = handle_cmp (handle_at handles a) (handle_at handles b)

-- the list has all positions, in the order of the handles there
pub record IsHandleOrder (places : List ℕ) (handles : List PlainHandle) : Type 0 where
  pub all : IsPermutation (range_with_len 0 (length handles)) places
  pub rises : IsSorted (place_cmp handles) places

-- the list has exactly the positions of this handle
abbrev pub AreAt : List PlainHandle → PlainHandle → List ℕ → Type 0
AreAt handles handle places = (k : ℕ) → Contains places k ↔ ((k < length handles) × (handle_at handles k ≡ handle))
