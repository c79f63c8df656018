-- The address ranges of a list: entries of `.debug_rnglists` (DWARF 5, sections 2.17.3 "Non-Contiguous Address Ranges"
-- and 7.25), and pairs of `.debug_ranges` (DWARF 4, section 2.17.3).
use Rattle.std.specs.Prelude.{ℕ, suc, ◌+◌, ◌%◌, ◌^◌, ◌==◌, ◌&&◌, if◌then◌else◌, List, [], ◌∷◌, length, find, Option, Some, None, Result, Ok, Err}
use Rattle.std.specs.Option.{option_map}
use Rattle.abi_base.specs.declared.fault.Fault.{Fault}
use Rattle.abi_base.specs.declared.fault.FaultKind.TheVariants as kind
use Rattle.abi_base.specs.Numbers.{number_at}
use Rattle.abi_base.specs.Leb.{uleb_at}
use Rattle.abi_base.specs.Outcome.{◌>>=◌, or_end}
use Rattle.abi_base.specs.Tables.{entry_of_table}
use Rattle.abi_base.specs.Runs.{Run, run, given}
use Rattle.abi_base.specs.Dwarf.{dw_rle_end_of_list, dw_rle_base_addressx, dw_rle_startx_endx, dw_rle_startx_length, dw_rle_offset_pair, dw_rle_base_address, dw_rle_start_end, dw_rle_start_length, base_selection}
use Rattle.dwarf_forms.specs.Values.{fault}
use Rattle.dwarf_text.specs.declared.ranges.layout.Field.{Field}
use Rattle.dwarf_text.specs.declared.ranges.layout.Field.TheVariants as field
use Rattle.dwarf_text.specs.declared.ranges.layout.Role.{Role}
use Rattle.dwarf_text.specs.declared.ranges.layout.Role.TheVariants as role
use Rattle.dwarf_text.specs.declared.ranges.layout.Layout.{Layout}
use Rattle.dwarf_text.specs.declared.ranges.lists.ListAt.{ListAt}
use Rattle.dwarf_text.specs.declared.ranges.lists.ListAt.TheVariants as list_at

-- ---- entries of `.debug_rnglists`

abbrev pub laid_out : Role → Field → Field → Layout
laid_out role first second = record { role = role; first = first; second = second }

-- each kind of entry except the end of the list, with the role of its first field, and its two fields
unfoldable pub kinds : List (ℕ × Layout)
kinds =
    (dw_rle_base_addressx, laid_out role.Base field.Index field.Absent)
    ∷ (dw_rle_startx_endx, laid_out role.Start field.Index field.Index)
    ∷ (dw_rle_startx_length, laid_out role.Start field.Index field.Number)
    ∷ (dw_rle_offset_pair, laid_out role.Offset field.Number field.Number)
    ∷ (dw_rle_base_address, laid_out role.Base field.Address field.Absent)
    ∷ (dw_rle_start_end, laid_out role.Start field.Address field.Address)
    ∷ (dw_rle_start_length, laid_out role.Start field.Address field.Number)
    ∷ []

unfoldable pub layout_of : ℕ → Option Layout
layout_of kind = option_map (λ row. row.1) (find (λ row. row.0 == kind) kinds)

-- The number of a field, and the offset after it. An index stands for the address with that index.
abbrev pub field_at : List ℕ → Option ℕ → ℕ → List ℕ → Field → ℕ → Result (ℕ × ℕ) Fault
field_at addr addr_base entry bytes field.Index at = do
  index ← or_end (uleb_at bytes at) (fault kind.Ranges entry)
  address ← or_end (entry_of_table 8 addr addr_base index.0) (fault kind.Index entry)
  Ok (address, index.1)
field_at addr addr_base entry bytes field.Address at = do
  address ← or_end (number_at 8 bytes at) (fault kind.Ranges entry)
  Ok (address, at + 8)
field_at addr addr_base entry bytes field.Number at = or_end (uleb_at bytes at) (fault kind.Ranges entry)
field_at addr addr_base entry bytes field.Absent at = Ok (0, at)

-- ---- lists, entry by entry. A state is an offset and the base there. An item is the start of a range, or None where the entry
-- selects a base.

abbrev pub State : Type 0
State = ℕ × ℕ

abbrev pub Entry : Type 0
Entry = Option ℕ

-- an end with a fault
abbrev pub or_fault : {A : Type 0} → Result A Fault → Result A (Option Fault)
or_fault (Ok x) = Ok x
or_fault (Err f) = Err (Some f)

-- the meaning of an entry's first field, and the base after it
abbrev pub meant : Role → ℕ → ℕ → Entry × ℕ
meant role.Base base n = (None, n)
meant role.Offset base n = (Some ((base + n) % 2 ^ 64), base)
meant role.Start base n = (Some n, base)

-- the entry whose kind is the byte before an offset
abbrev pub fields_step : List ℕ → Option ℕ → ℕ → List ℕ → Layout → State → Result (Entry × State) Fault
fields_step addr addr_base entry bytes layout s = do
  first ← field_at addr addr_base entry bytes layout.first s.0
  second ← field_at addr addr_base entry bytes layout.second first.1
  Ok ((meant layout.role s.1 first.0).0, (second.1, (meant layout.role s.1 first.0).1))

-- the entry with this kind, whose fields begin at an offset, or the end of the list
unfoldable pub kind_step : List ℕ → Option ℕ → ℕ → List ℕ → ℕ → State → Result (Entry × State) (Option Fault)
kind_step addr addr_base entry bytes code s =
    if code == dw_rle_end_of_list
    then Err None
    else (do
      layout ← or_end (layout_of code) (Some (fault kind.Ranges entry))
      or_fault (fields_step addr addr_base entry bytes layout s))

-- the entry at an offset in `.debug_rnglists`: a byte with its kind, then its fields
unfoldable pub list_step : List ℕ → Option ℕ → ℕ → List ℕ → State → Result (Entry × State) (Option Fault)
list_step addr addr_base entry bytes s = do
  code ← or_end (number_at 1 bytes s.0) (Some (fault kind.Ranges entry))
  kind_step addr addr_base entry bytes code (s.0 + 1, s.1)

-- the meaning of a pair, and the base after it
abbrev pub pair_means : ℕ → ℕ → ℕ → Entry × ℕ
pair_means base first second = if first == base_selection then (None, second) else (Some ((base + first) % 2 ^ 64), base)

-- the pair at an offset in `.debug_ranges`
unfoldable pub pair_step : ℕ → List ℕ → State → Result (Entry × State) (Option Fault)
pair_step entry bytes s = do
  first ← or_end (number_at 8 bytes s.0) (Some (fault kind.Ranges entry))
  second ← or_end (number_at 8 bytes (s.0 + 8)) (Some (fault kind.Ranges entry))
  if first == 0 && second == 0
      then Err None
      else Ok ((pair_means s.1 first second).0, (s.0 + 16, (pair_means s.1 first second).1))

-- the entries of the list at an offset, and its fault, if any
unfoldable pub list_run : List ℕ → Option ℕ → ℕ → List ℕ → State → Run Entry (Option Fault)
list_run addr addr_base entry bytes s = run (list_step addr addr_base entry bytes) None (suc (length bytes)) s

unfoldable pub pair_run : ℕ → List ℕ → State → Run Entry (Option Fault)
pair_run entry bytes s = run (pair_step entry bytes) None (suc (length bytes)) s

-- ---- the first range

-- The first start of a range. A fault counts only where no range comes before it.
abbrev pub first_or_end : List ℕ → Option Fault → Result (Option ℕ) Fault
first_or_end (start ∷ others) end = Ok (Some start)
first_or_end [] None = Ok None
first_or_end [] (Some f) = Err f

abbrev pub first_start : Run Entry (Option Fault) → Result (Option ℕ) Fault
first_start list = first_or_end (given list).items list.end

-- The offset of the list with this index: the entry of the unit's offset table, plus the unit's base.
abbrev pub place_of_list : List ℕ → Option ℕ → ℕ → Option ℕ
place_of_list bytes None k = None
place_of_list bytes (Some base) k = option_map (λ offset. base + offset) (entry_of_table 4 bytes (Some base) k)

-- the start of the first range of a list, if it has a range
abbrev pub first_address_of : (rnglists : List ℕ) → Option ℕ → (ranges addr : List ℕ) → Option ℕ → (low entry : ℕ) → ListAt → Result (Option ℕ) Fault
first_address_of rnglists rnglists_base ranges addr addr_base low entry (list_at.Offset place) =
    first_start (list_run addr addr_base entry rnglists (place, low))
first_address_of rnglists rnglists_base ranges addr addr_base low entry (list_at.Index k) = do
  place ← or_end (place_of_list rnglists rnglists_base k) (fault kind.Index entry)
  first_start (list_run addr addr_base entry rnglists (place, low))
first_address_of rnglists rnglists_base ranges addr addr_base low entry (list_at.Pairs place) =
    first_start (pair_run entry ranges (place, low))
