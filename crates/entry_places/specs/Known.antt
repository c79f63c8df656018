-- What was read of units and of line programs, and is kept.
use Rattle.std.specs.Prelude.{◌≡◌, ℕ, IfSome}
use Rattle.std.specs.BTreeMap.{BTreeMap, get}
use Rattle.std.specs.Option.{option_copied}
use Rattle.std.specs.Ordering.{nat_cmp}
use Rattle.std.specs.declared.rc.Rc.{Rc}
use Rattle.dwarf_files.specs.Programs.{LineProgram}
use Rattle.entry_places.specs.Coordinates.{DebugBytes, directory_of, entries_in, line_program_of}
use Rattle.entry_places.specs.declared.known.Known.{Known}
use Rattle.entry_places.specs.declared.unit_files.UnitFiles.{UnitFiles}

-- each kept value is the one of its number
pub record AreAll {V : Type 0} (Is : ℕ → V → Type 0) (kept : BTreeMap ℕ V) : Type 0 where
  pub each : (n : ℕ) → IfSome (get nat_cmp kept n) (Is n)

-- what the root of a unit says
abbrev pub IsOfUnit : DebugBytes → ℕ → UnitFiles → Type 0
IsOfUnit s unit files = (files.program ≡ line_program_of (entries_in s) unit) × (option_copied files.directory ≡ directory_of s (entries_in s) unit)

-- the line program at an offset
abbrev pub program_of : DebugBytes → ℕ → LineProgram
program_of s at = record { line = s.line; str = s.str; line_str = s.line_str; at = at }

abbrev pub IsProgram : {Z : Type 0} → DebugBytes → ℕ → Rc LineProgram Z → Type 0
IsProgram s at names = names.value ≡ program_of s at

abbrev pub IsKnown : DebugBytes → Known → Type 0
IsKnown s known = AreAll (IsOfUnit s) known.units × AreAll (IsProgram s) known.programs
