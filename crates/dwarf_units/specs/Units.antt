-- The entries of a unit, in order, and how they end (DWARF 5, sections 2.3 "Relationship of Debugging Information Entries",
-- 7.5.2 "Debugging Information Entry" and 7.5.3 "Abbreviations Tables").
use Rattle.std.specs.Prelude.{ℕ, zero, suc, ◌+◌, ◌==◌, ◌||◌, ◌&&◌, not, nat_lt, Bool, true, false, if◌then◌else◌, is_some, List, [], ◌∷◌, take, Option, Some, None, Result, Ok, Err, slice_index, find, pos}
use Rattle.std.specs.List.{list_any}
use Rattle.std.specs.Option.{option_map}
use Rattle.abi_base.specs.Dwarf.{dw_at_language, dw_lang_c89, dw_lang_c, dw_lang_c99, dw_lang_c11, dw_lang_c17, dw_lang_mips_assembler, dw_tag_compile_unit, dw_tag_partial_unit, dw_tag_type_unit}
use Rattle.dwarf_units.specs.HeaderLayout.{dwarf_4, header_size_4, type_header_size, header_size}
use Rattle.abi_base.specs.declared.fault.Fault.{Fault}
use Rattle.abi_base.specs.declared.fault.FaultKind.TheVariants as kind
use Rattle.abi_base.specs.Leb.{uleb_at}
use Rattle.abi_base.specs.Outcome.{◌>>=◌, or_end, fault_if}
use Rattle.abi_base.specs.Runs.{Run, run, given}
use Rattle.dwarf_forms.specs.declared.abbreviations.abbrev.Spec.{Spec}
use Rattle.dwarf_forms.specs.declared.abbreviations.abbrev.Abbrev.{Abbrev}
use Rattle.dwarf_forms.specs.abbreviations.Abbrevs.{abbrev_of}
use Rattle.dwarf_forms.specs.declared.values.Value.{Value}
use Rattle.dwarf_forms.specs.declared.values.Value.TheVariants as value
use Rattle.dwarf_forms.specs.Values.{value_at, fault}
use Rattle.dwarf_units.specs.declared.entry.Entry.{Entry}

-- A unit: its start and its end, the DWARF version, whether it is a partial unit, its signature if it is a type unit, the offset of
-- that type's entry, its abbreviations, and the section.
pub record PlainUnit : Type 0 where
  pub offset : ℕ
  pub end : ℕ
  pub version : ℕ
  pub partial : Bool
  pub signature : Option ℕ
  pub type_entry : ℕ
  pub table : List Abbrev
  pub info : List ℕ

abbrev pub is_type_unit : PlainUnit → Bool
is_type_unit u = is_some u.signature

-- the size of a unit's header, by its version and by whether it is a type unit
abbrev pub header_size_of : ℕ → Bool → ℕ
header_size_of version is_type = if version == dwarf_4 then header_size_4 else (if is_type then type_header_size else header_size)

-- the offset of the root
abbrev pub root_of : PlainUnit → ℕ
root_of u = u.offset + header_size_of u.version (is_type_unit u)

-- the bytes up to the unit's end
abbrev pub unit_bytes : PlainUnit → List ℕ
unit_bytes u = take u.end u.info

-- the values of an entry, in the order of its abbreviation, and the offset after them
unfoldable pub values_at : PlainUnit → ℕ → List Spec → ℕ → Result (List (ℕ × Value) × ℕ) Fault
values_at u entry [] at = Ok ([], at)
values_at u entry (s ∷ specs) at = do
  first ← value_at s.form s.implicit u.offset u.end entry u.info at
  others ← values_at u entry specs first.1
  Ok ((s.attribute, first.0) ∷ others.0, others.1)

-- the first value of an attribute
abbrev pub attribute_of : List (ℕ × Value) → ℕ → Option Value
attribute_of attributes name = option_map (λ a. a.1) (find (λ a. a.0 == name) attributes)

-- the languages that the reader supports: C, and assembler
abbrev pub is_language : ℕ → Bool
is_language n =
    n == dw_lang_c89
    || (n == dw_lang_c || (n == dw_lang_c99 || (n == dw_lang_c11 || (n == dw_lang_c17 || n == dw_lang_mips_assembler))))

-- a supported language, or none
abbrev pub language_fits : Option Value → Bool
language_fits None = true
language_fits (Some (value.Unsigned n)) = is_language n
language_fits (Some (value.Signed (pos n))) = is_language n
language_fits (Some other) = false

-- the tags that a root may have: in version 4 the header does not say which kind of unit it is
abbrev pub is_root_tag : PlainUnit → ℕ → Bool
is_root_tag u tag =
    if u.version == dwarf_4
    then tag == dw_tag_compile_unit || tag == dw_tag_partial_unit
    else tag == (if is_type_unit u then dw_tag_type_unit else (if u.partial then dw_tag_partial_unit else dw_tag_compile_unit))

-- the entry that begins with a code other than 0, at a depth; whether it has children; the offset after it
unfoldable pub entry_at : PlainUnit → ℕ → ℕ → ℕ × ℕ → Result (Entry × (Bool × ℕ)) Fault
entry_at u at depth code = do
  form ← or_end (abbrev_of u.table code.0) (fault kind.AbbrevCode at)
  values ← values_at u at form.specs code.1
  Ok (record { offset = at; depth = depth; tag = form.tag; specs_from = form.specs_from; attributes = values.0 }, (form.children, values.1))

-- The state of the reader: an offset, and the number of open sibling lists, which is None before the root.
abbrev pub State : Type 0
State = ℕ × Option ℕ

-- the number of open lists, 0 before the root
abbrev pub open_lists : Option ℕ → ℕ
open_lists None = 0
open_lists (Some n) = n

-- an entry, or None for the end of a list, and the state after it; else how the unit ends
abbrev pub Token : Type 0
Token = Result (Option Entry × State) (Option Fault)

abbrev pub tree_fault : ℕ → Token
tree_fault at = Err (Some (fault kind.Tree at))

-- the number of open lists after an entry: one more if it has children
abbrev pub opened : Bool → ℕ → ℕ
opened true n = suc n
opened false n = n

-- the root has a tag that its unit allows, and a supported language or none
abbrev pub root_token : PlainUnit → ℕ → Result (Entry × (Bool × ℕ)) Fault → Token
root_token u at (Err f) = Err (Some f)
root_token u at (Ok e) =
    if not (is_root_tag u e.0.tag) then tree_fault at
    else (if not (language_fits (attribute_of e.0.attributes dw_at_language)) then Err (Some (fault kind.Language at))
    else Ok (Some e.0, (e.1.1, Some (opened e.1.0 0))))

abbrev pub inner_token : ℕ → Result (Entry × (Bool × ℕ)) Fault → Token
inner_token n (Err f) = Err (Some f)
inner_token n (Ok e) = Ok (Some e.0, (e.1.1, Some (opened e.1.0 n)))

-- The token at an offset: first the root; inside a list an entry, or the code 0 that ends the list; after the root's own list only
-- 0 bytes up to the unit's end.
unfoldable pub token_at : PlainUnit → State → Token
token_at u (at, None) =
    if not (nat_lt at u.end) then tree_fault at else (do
      code ← or_end (uleb_at (unit_bytes u) at) (Some (fault kind.Cut at))
      if code.0 == 0 then tree_fault at else root_token u at (entry_at u at 0 code))
token_at u (at, Some zero) =
    if not (nat_lt at u.end) then Err None
    else (if slice_index u.info at == 0 then Ok (None, (at + 1, Some 0)) else tree_fault at)
token_at u (at, Some (suc n)) =
    if not (nat_lt at u.end) then tree_fault at else (do
      code ← or_end (uleb_at (unit_bytes u) at) (Some (fault kind.Cut at))
      if code.0 == 0 then Ok (None, (code.1, Some n)) else inner_token (suc n) (entry_at u at (suc n) code))

-- all tokens from a state on, entries and ends of lists, and the fault of an entry or of the tree at their end, if there is one
unfoldable pub tokens_from : PlainUnit → State → Run (Option Entry) (Option Fault)
tokens_from u s = run (token_at u) None (suc u.end) s

-- only the entries
unfoldable pub entries_from : PlainUnit → State → Run Entry (Option Fault)
entries_from u s = given (tokens_from u s)

-- ---- the entry of a type unit's type

-- the entry is at the unit's type offset
abbrev pub is_type_entry : PlainUnit → Entry → Bool
is_type_entry u e = e.offset == u.type_entry

-- A type unit without an entry at its type offset has a fault at its end. `met` tells whether an earlier entry was there.
abbrev pub end_with : PlainUnit → Bool → Option Fault → Option Fault
end_with u met None = fault_if (is_type_unit u && not met) kind.TypeOffset u.offset
end_with u met (Some f) = Some f

unfoldable pub judged : PlainUnit → Bool → Run Entry (Option Fault) → Run Entry (Option Fault)
judged u met r = record { items = r.items; end = end_with u (met || list_any (is_type_entry u) r.items) r.end }

-- the remaining entries, and the fault at their end
abbrev pub entries_left : PlainUnit → State → Bool → Run Entry (Option Fault)
entries_left u s met = judged u met (entries_from u s)

-- all entries of the unit, and the fault at their end, if there is one
unfoldable pub entries_of : PlainUnit → Run Entry (Option Fault)
entries_of u = entries_left u (root_of u, None) false
