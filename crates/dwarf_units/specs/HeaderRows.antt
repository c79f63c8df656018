-- The faults of a unit's header as rows of a table. Each row is a condition on the bytes at the unit's offset, and the first row
-- that holds decides.
use Rattle.std.specs.Prelude.{◌≡◌, ◌<◌, ◌≤◌, ◌⊎◌, ℕ, ◌+◌, List, [], ◌∷◌, length, Some, None}
use Rattle.abi_base.specs.Dwarf.{dw_ut_compile, dw_ut_type, dw_ut_partial}
use Rattle.dwarf_units.specs.HeaderLayout.{dwarf_4, dwarf_5, length_size, dwarf64_length, reserved_length, header_size_4, x86_64_address_size}
use Rattle.abi_base.specs.declared.fault.Fault.{Fault}
use Rattle.abi_base.specs.declared.fault.FaultKind.{FaultKind}
use Rattle.abi_base.specs.declared.fault.FaultKind.TheVariants as kind
use Rattle.dwarf_forms.specs.abbreviations.Abbrevs.{table_run}
use Rattle.dwarf_units.specs.Rows.{IsFirst, NoRow}
use Rattle.dwarf_units.specs.Sequence.{unit_length, unit_end, unit_version, unit_type, unit_address_size, unit_abbrevs, header_size_at, unit_of}
use Rattle.dwarf_units.specs.Units.{PlainUnit}

-- The length field or the unit is not inside the section, the length is reserved, or the unit is too short for its header.
abbrev pub LengthRow : List ℕ → ℕ → Type 0
LengthRow info at =
    (length info < at + length_size)
    ⊎ ((length info < unit_end info at)
    ⊎ ((reserved_length ≤ unit_length info at) ⊎ ((unit_end info at < at + header_size_4) ⊎ (unit_end info at < at + header_size_at info at))))

abbrev pub HeaderRow : List ℕ → ℕ → FaultKind → Type 0
HeaderRow info at kind.Dwarf64 = (at + length_size ≤ length info) × (unit_length info at ≡ dwarf64_length)
HeaderRow info at kind.UnitHeader = LengthRow info at
HeaderRow info at kind.DwarfVersion = ((unit_version info at ≡ dwarf_4) ⊎ (unit_version info at ≡ dwarf_5)) → ⊥
HeaderRow info at kind.UnitType =
    (unit_version info at ≡ dwarf_5)
    × (((unit_type info at ≡ dw_ut_compile) ⊎ ((unit_type info at ≡ dw_ut_type) ⊎ (unit_type info at ≡ dw_ut_partial))) → ⊥)
HeaderRow info at kind.AddressSize = unit_address_size info at ≡ x86_64_address_size → ⊥
HeaderRow info at other = ⊥

-- the rows, in order
abbrev pub header_rows : List FaultKind
header_rows = kind.Dwarf64 ∷ kind.UnitHeader ∷ kind.DwarfVersion ∷ kind.UnitType ∷ kind.AddressSize ∷ []

-- a unit begins at this offset, no row of its header holds, and its abbreviation table has no fault
pub record UnitWhole (info abbrevs : List ℕ) (at : ℕ) : Type 0 where
  pub inside : at < length info
  pub header : NoRow (HeaderRow info at) header_rows
  pub table : (table_run abbrevs (unit_abbrevs info at)).end ≡ None

-- A unit begins at this offset. The fault is that of the first row of its header that holds, or else that of its table.
abbrev pub UnitFaulty : List ℕ → List ℕ → ℕ → Fault → Type 0
UnitFaulty info abbrevs at f =
    (at < length info)
    × (((f.at ≡ at) × IsFirst (HeaderRow info at) header_rows f.kind)
    ⊎ (NoRow (HeaderRow info at) header_rows × ((table_run abbrevs (unit_abbrevs info at)).end ≡ Some f)))

-- these units are whole and follow one another up to an offset
abbrev pub UnitsUpTo : List ℕ → List ℕ → ℕ → List PlainUnit → ℕ → Type 0
UnitsUpTo info abbrevs at [] end = at ≡ end
UnitsUpTo info abbrevs at (u ∷ others) end = UnitWhole info abbrevs at × (u ≡ unit_of info abbrevs at) × UnitsUpTo info abbrevs u.end others end

-- The fault of the units: after whole units from the section's start on, the fault of the next one.
abbrev pub IsFaultOfUnits : List ℕ → List ℕ → Fault → Type 0
IsFaultOfUnits info abbrevs f = (units : List PlainUnit) × (at : ℕ) × UnitsUpTo info abbrevs 0 units at × UnitFaulty info abbrevs at f

-- whole units up to the section's end
abbrev pub AreWhole : List ℕ → List ℕ → Type 0
AreWhole info abbrevs = (units : List PlainUnit) × (at : ℕ) × UnitsUpTo info abbrevs 0 units at × (length info ≤ at)
