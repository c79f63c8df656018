-- A unit as a tree of entries, by its grammar alone (DWARF 5, section 2.3 "Relationship of Debugging Information Entries"):
-- an entry with children is followed by the list of them, and a code 0 ends a list.
use Rattle.std.specs.Prelude.{◌≡◌, ◌≢◌, ◌<◌, ◌≤◌, ℕ, suc, Bool, true, false, List, [], ◌∷◌, ◌++◌, Ok, Some, slice_index, Option, None}
use Rattle.std.specs.List.{list_any}
use Rattle.abi_base.specs.Dwarf.{dw_at_language}
use Rattle.abi_base.specs.declared.fault.Fault.{Fault}
use Rattle.abi_base.specs.Leb.{uleb_at}
use Rattle.abi_base.specs.Runs.{Run}
use Rattle.dwarf_units.specs.declared.entry.Entry.{Entry}
use Rattle.dwarf_units.specs.Units.{PlainUnit, State, is_type_unit, is_type_entry, root_of, unit_bytes, entry_at, is_root_tag, language_fits, attribute_of, open_lists, opened}

-- a list of entries, each with the list of its children, if it has children
pub data Siblings : Type 0 where
  ended_list : Siblings
  leaf : (entry : Entry) (others : Siblings) → Siblings
  branch : (entry : Entry) (children others : Siblings) → Siblings

-- the entries of a list, each before its children
abbrev pub listed : Siblings → List Entry
listed ended_list = []
listed (leaf entry others) = entry ∷ listed others
listed (branch entry children others) = entry ∷ (listed children ++ listed others)

-- an entry at an offset and a depth, whether it has children, and the offset after it
abbrev pub IsEntry : PlainUnit → ℕ → ℕ → Entry → Bool → ℕ → Type 0
IsEntry u depth at entry children after =
    (code : ℕ × ℕ) × (at < u.end) × (uleb_at (unit_bytes u) at ≡ Some code) × (code.0 ≢ 0) × (entry_at u at depth code ≡ Ok (entry, (children, after)))

-- a code 0 at an offset, and the offset after it
abbrev pub IsEnd : PlainUnit → ℕ → ℕ → Type 0
IsEnd u at after = (at < u.end) × (uleb_at (unit_bytes u) at ≡ Some (0, after))

-- An entry at an offset, whose depth is the number of open lists. It opens one more if it has children. None follows the end of the
-- root's own list.
pub record EntryStands (u : PlainUnit) (s : State) (entry : Entry) (next : State) : Type 0 where
  pub children : Bool
  pub there : IsEntry u (open_lists s.1) s.0 entry children next.0
  pub offset : entry.offset ≡ s.0
  pub depth : entry.depth ≡ open_lists s.1
  pub lists : next.1 ≡ Some (opened children (open_lists s.1))
  pub in_list : s.1 ≢ Some 0

-- A token that is not an entry: it ends a list, or pads the unit after the root's list, and opens no list.
pub record EndStands (s next : State) : Type 0 where
  pub begun : s.1 ≢ None
  pub left : ℕ
  pub lists : next.1 ≡ Some left
  pub fewer : left ≤ open_lists s.1

-- the token at an offset: an entry, or another one
abbrev pub IsThere : PlainUnit → State → Option Entry → State → Type 0
IsThere u s (Some entry) next = EntryStands u s entry next
IsThere u s None next = EndStands s next

-- a token begins before the unit's end, and the next one after it
pub record TokenStands (u : PlainUnit) (s : State) (x : Option Entry) (next : State) : Type 0 where
  pub inside : s.0 < u.end
  pub on : s.0 < next.0
  pub is : IsThere u s x next

-- a list of entries at an offset and a depth, up to the code 0 that ends it, and the offset after that
unfoldable pub Spells : PlainUnit → ℕ → ℕ → Siblings → ℕ → Type 0
Spells u depth at ended_list after = IsEnd u at after
Spells u depth at (leaf entry others) after = (next : ℕ) × IsEntry u depth at entry false next × Spells u depth next others after
Spells u depth at (branch entry children others) after =
    (inner : ℕ) × (next : ℕ) × IsEntry u depth at entry true inner × Spells u (suc depth) inner children next × Spells u depth next others after

-- only 0 bytes from an offset up to the unit's end
abbrev pub IsPadding : PlainUnit → ℕ → Type 0
IsPadding u at = (i : ℕ) → at ≤ i → i < u.end → slice_index u.info i ≡ 0

-- what follows a root: padding, or its children and then padding
abbrev pub RootHas : PlainUnit → Bool → ℕ → List Entry → Type 0
RootHas u false after below = (below ≡ []) × IsPadding u after
RootHas u true after below = (children : Siblings) × (end : ℕ) × Spells u 1 after children end × (below ≡ listed children) × IsPadding u end

-- The unit is one tree: a root with a tag for the unit in a supported language, the entries below it, and padding.
pub record IsTree (u : PlainUnit) (entries : List Entry) : Type 0 where
  pub root : Entry
  pub children : Bool
  pub after : ℕ
  pub below : List Entry
  pub is_root : IsEntry u 0 (root_of u) root children after
  pub tag : is_root_tag u root.tag ≡ true
  pub language : language_fits (attribute_of root.attributes dw_at_language) ≡ true
  pub has : RootHas u children after below
  pub all : entries ≡ root ∷ below

-- an entry of a type unit is at the unit's type offset
abbrev pub HasType : PlainUnit → List Entry → Type 0
HasType u entries = is_type_unit u ≡ true → list_any (is_type_entry u) entries ≡ true

-- the entries of a unit without a fault
abbrev pub faultless : List Entry → Run Entry (Option Fault)
faultless entries = record { items = entries; end = None }
