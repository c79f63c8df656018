-- The first fault of a library.
use Rattle.std.specs.Prelude.{ℕ, List, [], ◌∷◌, length, Option}
use Rattle.abi_base.specs.declared.fault.Fault.{Fault}
use Rattle.abi_base.specs.Outcome.{first}
use Rattle.abi_types.specs.Exports.{PlainExport}
use Rattle.dwarf_entries.specs.Pass.{dwarf_fault}
use Rattle.elf.specs.file.Elf.{elf_fault}
use Rattle.elf.specs.symbols.Dynamic.{dynamic_fault}
use Rattle.elf.specs.symbols.Symbols.{symbol_fault, symbols_of}
use Rattle.elf.specs.versions.Versions.{version_fault}
use Rattle.type_reach.specs.Faults.{types_fault}
use Rattle.elf_bind.specs.Exports.{export_fault}
use Rattle.library_read.specs.Debug.{debug_of, sections_in}
use Rattle.library_read.specs.Exports.{roots_among, roots_of, symbol_versions}

-- the first fault of the dynamic symbols, of the dynamic table, of the versions and of the exports
unfoldable pub listing_fault : List ℕ → Option Fault
listing_fault f =
    first (symbol_fault f
    ∷ dynamic_fault f
    ∷ version_fault f (length (symbols_of f))
    ∷ export_fault (symbols_of f) (symbol_versions f)
    ∷ [])

-- The first fault of the debug information of a file with these exports: of its units and entries as they are read, of what
-- entries say, and of the types that the exports reach.
unfoldable pub debug_fault : List ℕ → List PlainExport → Option Fault
debug_fault f exports = first (dwarf_fault (sections_in f) ∷ types_fault (debug_of f) (roots_among (debug_of f) exports) ∷ [])

-- The first fault of a library: of its header and sections, of its symbols, of its dynamic table, of its versions, of its
-- exports, of its units and entries, and of the types that its exports reach.
unfoldable pub library_fault : List ℕ → Option Fault
library_fault f =
    first (elf_fault f
    ∷ symbol_fault f
    ∷ dynamic_fault f
    ∷ version_fault f (length (symbols_of f))
    ∷ export_fault (symbols_of f) (symbol_versions f)
    ∷ dwarf_fault (sections_in f)
    ∷ types_fault (debug_of f) (roots_of f)
    ∷ [])
