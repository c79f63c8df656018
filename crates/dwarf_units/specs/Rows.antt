-- The faults of a unit's entries as rows of a table. Each row is a condition at an offset, and the first row that holds decides. No
-- row depends on how a reader continues after it.
use Rattle.std.specs.Prelude.{◌≡◌, ◌≢◌, ◌<◌, ◌≤◌, ◌⊎◌, ℕ, zero, suc, ◌+◌, Bool, true, false, List, [], ◌∷◌, Option, Some, None, Ok, slice_index}
use Rattle.std.specs.List.{list_any, filter_map}
use Rattle.abi_base.specs.Dwarf.{dw_at_language}
use Rattle.abi_base.specs.Leb.{uleb_at}
use Rattle.abi_base.specs.declared.fault.Fault.{Fault}
use Rattle.abi_base.specs.declared.fault.FaultKind.{FaultKind}
use Rattle.abi_base.specs.declared.fault.FaultKind.TheVariants as kind
use Rattle.dwarf_forms.specs.declared.abbreviations.abbrev.Abbrev.{Abbrev}
use Rattle.dwarf_forms.specs.declared.abbreviations.abbrev.Spec.{Spec}
use Rattle.dwarf_forms.specs.abbreviations.Abbrevs.{abbrev_of}
use Rattle.dwarf_forms.specs.declared.values.Value.{Value}
use Rattle.dwarf_forms.specs.Values.{indirect, supplementary, shape_of, named_shape, value_at}
use Rattle.dwarf_units.specs.declared.entry.Entry.{Entry}
use Rattle.dwarf_units.specs.Grammar.{IsEntry, IsEnd, EntryStands}
use Rattle.dwarf_units.specs.Units.{PlainUnit, State, unit_bytes, is_root_tag, language_fits, attribute_of, root_of, is_type_unit, is_type_entry}

-- ---- one value

-- an attribute specification has this value at an offset, with the offset after it
abbrev pub HasValue : PlainUnit → ℕ → Spec → ℕ → Value × ℕ → Type 0
HasValue u entry s at v = value_at s.form s.implicit u.offset u.end entry u.info at ≡ Ok v

-- the form is unknown, or is DW_FORM_indirect before a form that is unknown or not allowed there
abbrev pub IsUnknown : PlainUnit → Spec → ℕ → Type 0
IsUnknown u s at =
    (shape_of s.form ≡ None)
    ⊎ ((shape_of s.form ≡ Some indirect) × (n : ℕ × ℕ) × (uleb_at (unit_bytes u) at ≡ Some n) × (named_shape (shape_of n.0) ≡ None))

-- the form, or the one after DW_FORM_indirect, refers to a supplementary file
abbrev pub IsElsewhere : PlainUnit → Spec → ℕ → Type 0
IsElsewhere u s at =
    (shape_of s.form ≡ Some supplementary)
    ⊎ ((shape_of s.form ≡ Some indirect) × (n : ℕ × ℕ) × (uleb_at (unit_bytes u) at ≡ Some n) × (named_shape (shape_of n.0) ≡ Some supplementary))

-- the form is known and stays within this file, but its value does not end inside the unit
pub record IsCut (u : PlainUnit) (entry : ℕ) (s : Spec) (at : ℕ) : Type 0 where
  pub no_value : (v : Value × ℕ) → HasValue u entry s at v → ⊥
  pub known : IsUnknown u s at → ⊥
  pub here : IsElsewhere u s at → ⊥

-- the first value, from an offset on, that has a fault has one of this kind
abbrev pub FirstUnread : PlainUnit → ℕ → (Spec → ℕ → Type 0) → List Spec → ℕ → Type 0
FirstUnread u entry Kind [] at = ⊥
FirstUnread u entry Kind (s ∷ specs) at = Kind s at ⊎ ((v : Value × ℕ) × HasValue u entry s at v × FirstUnread u entry Kind specs v.1)

-- ---- what begins at an offset

-- The offset is before the unit's end, and the root or an entry of an open list is due there.
pub record IsDue (u : PlainUnit) (s : State) : Type 0 where
  pub inside : s.0 < u.end
  pub in_list : s.1 ≢ Some 0

-- an entry begins there with its code
pub record Begins (u : PlainUnit) (s : State) (code : ℕ × ℕ) : Type 0 where
  pub due : IsDue u s
  pub code_is : uleb_at (unit_bytes u) s.0 ≡ Some code
  pub no_end : code.0 ≢ 0

-- the same for a code in the abbreviation table
pub record HasForm (u : PlainUnit) (s : State) (code : ℕ × ℕ) (form : Abbrev) : Type 0 where
  pub begins : Begins u s code
  pub form_is : abbrev_of u.table code.0 ≡ Some form

-- an entry begins there, and its first value with a fault has one of this kind
abbrev pub HasUnread : PlainUnit → State → (Spec → ℕ → Type 0) → Type 0
HasUnread u s Kind = (code : ℕ × ℕ) × (form : Abbrev) × HasForm u s code form × FirstUnread u s.0 Kind form.specs code.1

-- ---- the rows

abbrev pub CutRow : PlainUnit → State → Type 0
CutRow u s = (IsDue u s × (uleb_at (unit_bytes u) s.0 ≡ None)) ⊎ HasUnread u s (IsCut u s.0)

abbrev pub CodeRow : PlainUnit → State → Type 0
CodeRow u s = (code : ℕ × ℕ) × Begins u s code × (abbrev_of u.table code.0 ≡ None)

-- a root with a tag that its unit does not allow
abbrev pub HasOtherRoot : PlainUnit → State → Type 0
HasOtherRoot u s = (code : ℕ × ℕ) × (form : Abbrev) × HasForm u s code form × (is_root_tag u form.tag ≡ false)

-- The unit ends before its root, or has a code 0 or a root with another tag there; a byte other than 0 follows the root's own
-- list; the unit ends inside a list.
abbrev pub TreeRow : PlainUnit → ℕ → Option ℕ → Type 0
TreeRow u at None = (u.end ≤ at) ⊎ (((after : ℕ) × IsEnd u at after) ⊎ HasOtherRoot u (at, None))
TreeRow u at (Some zero) = (at < u.end) × (slice_index u.info at ≢ 0)
TreeRow u at (Some (suc n)) = u.end ≤ at

-- a root with a language that is not supported
abbrev pub LanguageRow : PlainUnit → ℕ → Option ℕ → Type 0
LanguageRow u at None = (e : Entry) × (children : Bool) × (after : ℕ) × IsEntry u 0 at e children after × (language_fits (attribute_of e.attributes dw_at_language) ≡ false)
LanguageRow u at (Some n) = ⊥

abbrev pub Row : PlainUnit → State → FaultKind → Type 0
Row u s kind.Cut = CutRow u s
Row u s kind.AbbrevCode = CodeRow u s
Row u s kind.Form = HasUnread u s (IsUnknown u)
Row u s kind.Supplementary = HasUnread u s (IsElsewhere u)
Row u s kind.Tree = TreeRow u s.0 s.1
Row u s kind.Language = LanguageRow u s.0 s.1
Row u s other = ⊥

-- the rows, in order
abbrev pub rows : List FaultKind
rows = kind.Cut ∷ kind.AbbrevCode ∷ kind.Form ∷ kind.Supplementary ∷ kind.Tree ∷ kind.Language ∷ []

-- one of the rows holds, and none before it
abbrev pub IsFirst : (FaultKind → Type 0) → List FaultKind → FaultKind → Type 0
IsFirst Holds [] k = ⊥
IsFirst Holds (j ∷ others) k = ((k ≡ j) × Holds j) ⊎ ((Holds j → ⊥) × IsFirst Holds others k)

-- none of the rows holds
abbrev pub NoRow : (FaultKind → Type 0) → List FaultKind → Type 0
NoRow Holds [] = Unit {0}
NoRow Holds (j ∷ others) = (Holds j → ⊥) × NoRow Holds others

-- ---- one after the other

-- The token at an offset, and the next offset: an entry, the code 0 that ends a list, or a 0 byte after the root's own list.
abbrev pub GoesOn : PlainUnit → State → Option Entry → State → Type 0
GoesOn u s (Some e) next = EntryStands u s e next
GoesOn u (at, None) None next = ⊥
GoesOn u (at, Some zero) None next = (at < u.end) × (slice_index u.info at ≡ 0) × (next ≡ (at + 1, Some 0))
GoesOn u (at, Some (suc n)) None next = (after : ℕ) × IsEnd u at after × (next ≡ (after, Some n))

-- these tokens follow one another up to an offset, at ascending offsets, and no row holds at any of them
abbrev pub WholeUpTo : PlainUnit → State → List (Option Entry) → State → Type 0
WholeUpTo u s [] end = s ≡ end
WholeUpTo u s (x ∷ others) end = (next : State) × GoesOn u s x next × (s.0 < next.0) × NoRow (Row u s) rows × WholeUpTo u next others end

-- the fault of the first row that holds at an offset, where everything before is whole
abbrev pub FaultStands : PlainUnit → State → List (Option Entry) → Fault → Type 0
FaultStands u s before f = (lists : Option ℕ) × WholeUpTo u s before (f.at, lists) × IsFirst (Row u (f.at, lists)) rows f.kind

-- everything is whole up to the unit's end, which comes after the root's own list, and no row holds there
abbrev pub AllWhole : PlainUnit → State → List (Option Entry) → Type 0
AllWhole u s all = (at : ℕ) × WholeUpTo u s all (at, Some 0) × (u.end ≤ at) × NoRow (Row u (at, Some 0)) rows

-- a type unit without an entry at its type offset
abbrev pub LacksType : PlainUnit → List (Option Entry) → Type 0
LacksType u all = (is_type_unit u ≡ true) × (list_any (is_type_entry u) (filter_map (λ x. x) all) ≡ false)

-- The fault of a unit's entries: that of the first row at the first offset where one holds, or, where everything is whole, that of
-- a missing entry at the type offset.
abbrev pub IsFaultOf : PlainUnit → Fault → Type 0
IsFaultOf u f =
    ((before : List (Option Entry)) × FaultStands u (root_of u, None) before f)
    ⊎ ((all : List (Option Entry)) × AllWhole u (root_of u, None) all × LacksType u all × (f ≡ record { kind = kind.TypeOffset; at = u.offset }))

-- no row holds at any offset of the unit's entries, and a type unit has an entry at its type offset
abbrev pub IsWhole : PlainUnit → Type 0
IsWhole u = (all : List (Option Entry)) × AllWhole u (root_of u, None) all × (LacksType u all → ⊥)
