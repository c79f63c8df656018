-- The units of `.debug_info`, in order, and how they end (DWARF 5, section 7.5.1 "Unit Headers"; DWARF 4, section 7.5.1.1
-- "Compilation Unit Header").
use Rattle.std.specs.Prelude.{◌≡◌, ◌<◌, ◌≤◌, ℕ, suc, ◌+◌, ◌==◌, ◌||◌, ◌&&◌, not, nat_lt, nat_le, Bool, false, if◌then◌else◌, List, [], ◌∷◌, ◌++◌, flat_map, map, length, slice_index, Option, Some, None, Result, Ok, Err}
use Rattle.abi_base.specs.Dwarf.{dw_tag_partial_unit, dw_ut_compile, dw_ut_type, dw_ut_partial}
use Rattle.dwarf_units.specs.HeaderLayout.{dwarf_4, dwarf_5, length_size, dwarf64_length, reserved_length, header_size_4, version_at, debug_abbrev_offset_4_at, address_size_4_at, unit_type_at, address_size_at, debug_abbrev_offset_at, type_signature_at, type_offset_at, x86_64_address_size}
use Rattle.abi_base.specs.declared.fault.Fault.{Fault}
use Rattle.abi_base.specs.declared.fault.FaultKind.TheVariants as kind
use Rattle.abi_base.specs.Numbers.{number}
use Rattle.abi_base.specs.Outcome.{fault_if, first}
use Rattle.abi_base.specs.Runs.{Run, run}
use Rattle.dwarf_forms.specs.abbreviations.Abbrevs.{table_run}
use Rattle.dwarf_units.specs.declared.entry.Entry.{Entry}
use Rattle.dwarf_units.specs.Units.{PlainUnit, header_size_of, root_of, entries_of}

-- the length of the unit at an offset, without the length field, and where the unit ends
abbrev pub unit_length : List ℕ → ℕ → ℕ
unit_length info at = number 4 info at

abbrev pub unit_end : List ℕ → ℕ → ℕ
unit_end info at = at + length_size + unit_length info at

abbrev pub unit_version : List ℕ → ℕ → ℕ
unit_version info at = number 2 info (at + version_at)

-- in version 5 the unit type follows the version
abbrev pub unit_type : List ℕ → ℕ → ℕ
unit_type info at = slice_index info (at + unit_type_at)

abbrev pub is_type_at : List ℕ → ℕ → Bool
is_type_at info at = unit_version info at == dwarf_5 && unit_type info at == dw_ut_type

-- in version 4 the address size follows the abbreviation offset, in version 5 it precedes it
abbrev pub unit_address_size : List ℕ → ℕ → ℕ
unit_address_size info at = slice_index info (if unit_version info at == dwarf_4 then at + address_size_4_at else at + address_size_at)

abbrev pub unit_abbrevs : List ℕ → ℕ → ℕ
unit_abbrevs info at = number 4 info (if unit_version info at == dwarf_4 then at + debug_abbrev_offset_4_at else at + debug_abbrev_offset_at)

-- the size of a unit's header, by version and unit type
abbrev pub header_size_at : List ℕ → ℕ → ℕ
header_size_at info at = header_size_of (unit_version info at) (is_type_at info at)

-- The length field or the unit is not inside the section, the length is reserved, or the unit is too short: for the shortest
-- header, or for the header of its version and unit type.
abbrev pub bad_length : List ℕ → ℕ → Bool
bad_length info at =
    nat_lt (length info) (at + length_size)
    || (nat_lt (length info) (unit_end info at)
    || (nat_le reserved_length (unit_length info at)
    || (nat_lt (unit_end info at) (at + header_size_4) || nat_lt (unit_end info at) (at + header_size_at info at))))

abbrev pub is_version : ℕ → Bool
is_version version = version == dwarf_4 || version == dwarf_5

abbrev pub is_read_type : ℕ → Bool
is_read_type type = type == dw_ut_compile || (type == dw_ut_type || type == dw_ut_partial)

-- the rows on a header's length, and those on its other fields
abbrev pub length_rows : List ℕ → ℕ → List (Option Fault)
length_rows info at =
    fault_if (nat_le (at + length_size) (length info) && unit_length info at == dwarf64_length) kind.Dwarf64 at
    ∷ fault_if (bad_length info at) kind.UnitHeader at
    ∷ []

abbrev pub kind_rows : List ℕ → ℕ → List (Option Fault)
kind_rows info at =
    fault_if (not (is_version (unit_version info at))) kind.DwarfVersion at
    ∷ fault_if (unit_version info at == dwarf_5 && not (is_read_type (unit_type info at))) kind.UnitType at
    ∷ fault_if (not (unit_address_size info at == x86_64_address_size)) kind.AddressSize at
    ∷ []

-- the fault of a unit's header: that of the first of its rows that holds
unfoldable pub header_fault : List ℕ → ℕ → Option Fault
header_fault info at = first (length_rows info at ++ kind_rows info at)

-- the fault of a unit: that of its header, else that of its abbreviation table
unfoldable pub unit_fault : List ℕ → List ℕ → ℕ → Option Fault
unit_fault info abbrevs at = first (header_fault info at ∷ (table_run abbrevs (unit_abbrevs info at)).end ∷ [])

-- the root of a unit has the tag DW_TAG_partial_unit
abbrev pub begins_partial : List Entry → Bool
begins_partial [] = false
begins_partial (root ∷ others) = root.tag == dw_tag_partial_unit

-- Whether a unit is a partial unit: in version 5 the unit type decides, in version 4 the tag of its root. A unit of version 4 whose
-- root has a fault is not one.
unfoldable pub is_partial : PlainUnit → Bool
is_partial u = if u.version == dwarf_4 then begins_partial (entries_of u).items else unit_type u.info u.offset == dw_ut_partial

-- the unit at an offset, as a partial unit or not
abbrev pub unit_with : List ℕ → List ℕ → ℕ → Bool → PlainUnit
unit_with info abbrevs at partial =
    record {
      offset = at;
      end = unit_end info at;
      version = unit_version info at;
      partial = partial;
      signature = (if is_type_at info at then Some (number 8 info (at + type_signature_at)) else None);
      type_entry = (if is_type_at info at then at + number 4 info (at + type_offset_at) else 0);
      table = (table_run abbrevs (unit_abbrevs info at)).items;
      info = info;
    }

-- the unit at an offset
unfoldable pub unit_of : List ℕ → List ℕ → ℕ → PlainUnit
unit_of info abbrevs at = unit_with info abbrevs at (is_partial (unit_with info abbrevs at false))

abbrev pub unit_or : Option Fault → PlainUnit → Result (PlainUnit × ℕ) (Option Fault)
unit_or None u = Ok (u, u.end)
unit_or (Some f) u = Err (Some f)

-- the unit at an offset, and the offset after it; else how the section ends
unfoldable pub unit_step : List ℕ → List ℕ → ℕ → Result (PlainUnit × ℕ) (Option Fault)
unit_step info abbrevs at = if not (nat_lt at (length info)) then Err None else unit_or (unit_fault info abbrevs at) (unit_of info abbrevs at)

-- the units from an offset on, and the fault of a header or table at the end, if there is one
unfoldable pub units_from : List ℕ → List ℕ → ℕ → Run PlainUnit (Option Fault)
units_from info abbrevs at = run (unit_step info abbrevs) None (suc (length info)) at

-- the extent of a unit: its root is after its start, its end is the start of the next, and it is inside the section
pub record UnitStands (info : List ℕ) (at : ℕ) (u : PlainUnit) (next : ℕ) : Type 0 where
  pub root : at < root_of u
  pub on : root_of u ≤ next
  pub end : u.end ≡ next
  pub inside : next ≤ length info

-- all units of the section
abbrev pub units_of : List ℕ → List ℕ → Run PlainUnit (Option Fault)
units_of info abbrevs = units_from info abbrevs 0

-- ---- the section as a whole

-- the entries of all units up to the first fault, by offset
unfoldable pub all_entries : List ℕ → List ℕ → List Entry
all_entries info abbrevs = flat_map (λ u. (entries_of u).items) (units_of info abbrevs).items

-- the first fault of units and entries by offset: that of each unit, then that of its entries
unfoldable pub entries_fault : List ℕ → List ℕ → Option Fault
entries_fault info abbrevs = first (map (λ u. (entries_of u).end) (units_of info abbrevs).items ++ (units_of info abbrevs).end ∷ [])
