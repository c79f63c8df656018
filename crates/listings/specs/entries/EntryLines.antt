-- The output of `abi entries` for a library, and its first fault.
use Rattle.std.specs.Prelude.{ℕ, false, List, [], ◌∷◌, flat_map, Option, codes, decimal}
use Rattle.std.specs.Fmt.{digits}
use Rattle.std.specs.List.{concat}
use Rattle.abi_base.specs.declared.fault.Fault.{Fault}
use Rattle.abi_base.specs.Outcome.{first}
use Rattle.abi_base.specs.declared.limit.Limit.{Limit}
use Rattle.dwarf_units.specs.declared.entry.Entry.{Entry}
use Rattle.dwarf_units.specs.Limits.{UnitsPass}
use Rattle.dwarf_units.specs.Sequence.{all_entries, entries_fault}
use Rattle.elf.specs.sections.DebugSections.{debug_info, debug_abbrev}
use Rattle.elf.specs.file.Elf.{elf_fault}

-- the first fault of a library whose entries are printed: of its file header and sections, or else of its units and entries
unfoldable pub listing_fault : List ℕ → Option Fault
listing_fault f = first (elf_fault f ∷ entries_fault (debug_info f) (debug_abbrev f) ∷ [])

-- the end of a line
abbrev pub newline : List ℕ
newline = 10 ∷ []

-- the line of an entry: its offset, its depth, and its tag in hexadecimal
abbrev pub line_of : ℕ → ℕ → ℕ → List ℕ
line_of offset depth tag = concat (decimal offset ∷ codes " " ∷ decimal depth ∷ codes " " ∷ digits 16 false tag ∷ newline ∷ [])

abbrev pub entry_line : Entry → List ℕ
entry_line e = line_of e.offset e.depth e.tag

-- the lines of all entries, by offset
unfoldable pub listing_of : List ℕ → List ℕ
listing_of f = flat_map entry_line (all_entries (debug_info f) (debug_abbrev f))

-- the limits that a library passes where its entries are listed
abbrev pub EntriesPass : List ℕ → Limit → Type 0
EntriesPass f l = UnitsPass (debug_info f) (debug_abbrev f) l
