-- What a file needs of other files, and its first fault.
use Rattle.std.specs.Prelude.{◌⊎◌, ℕ, ◌==◌, Bool, false, ◌&&◌, List, [], ◌∷◌, map, filter, slice_get, Option}
use Rattle.std.specs.Option.{option_map_or}
use Rattle.abi_base.specs.declared.fault.Fault.{Fault}
use Rattle.abi_base.specs.declared.limit.Limit.{Limit}
use Rattle.abi_base.specs.Elf.{shn_undef, stb_global}
use Rattle.abi_base.specs.Outcome.{first}
use Rattle.elf.specs.symbols.Symbols.{PlainSymbol, symbols_of}
use Rattle.new_needs.specs.NeededFiles.{needed_files, needed_fault, PassesNames}
use Rattle.elf_needs.specs.Needs.{PlainNeed}
use Rattle.app_check.specs.Imports.{PlainImport, imports_of, app_fault, AppPasses}
use Rattle.new_needs.specs.NeededFiles.{needed_files, needed_fault, PassesNames}
use Rattle.new_needs.specs.Versions.{needed_versions}
use Rattle.new_needs.specs.Needed.{PlainNeeded, PlainNeeds}

-- a file
abbrev pub file_needed : List ℕ → PlainNeeded
file_needed name = record { name = name; of = [] }

-- a version and its file
abbrev pub version_needed : PlainNeed → PlainNeeded
version_needed n = record { name = n.version; of = n.file }

-- a symbol and its version, which is empty where it has none
abbrev pub symbol_needed : PlainImport → PlainNeeded
symbol_needed i = record { name = i.name; of = option_map_or (λ n. n.version) i.need [] }

-- Some other file must define the symbol: it is undefined and has the binding GLOBAL. An undefined symbol with the binding WEAK may
-- stay undefined (gABI, "Symbol Table").
abbrev pub must_be_defined : PlainSymbol → Bool
must_be_defined s = s.section == shn_undef && s.binding == stb_global

-- the same of an import, by its symbol
abbrev pub is_strong : List PlainSymbol → PlainImport → Bool
is_strong symbols i = option_map_or must_be_defined (slice_get symbols i.symbol) false

-- the symbols that must be defined, in order
abbrev pub strong_symbols : List PlainSymbol → List PlainImport → List PlainNeeded
strong_symbols symbols imports = map symbol_needed (filter (is_strong symbols) imports)

-- what a file with these names of needed files, versions, symbols and imports needs
abbrev pub needs_with : List (List ℕ) → List PlainNeed → List PlainSymbol → List PlainImport → PlainNeeds
needs_with names versions symbols imports = record {
  files = map file_needed names;
  versions = map version_needed versions;
  symbols = strong_symbols symbols imports;
}

-- ---- of a file

-- what a file needs of other files
unfoldable pub needs_of : List ℕ → PlainNeeds
needs_of f = needs_with (needed_files f) (needed_versions f) (symbols_of f) (imports_of f)

-- the first fault of its header, symbols, versions and needs, and then of the names of needed files
unfoldable pub file_fault : List ℕ → Option Fault
file_fault f = first (app_fault f ∷ needed_fault f ∷ [])

-- the limit on what is read of the imports, or that on needed files
abbrev pub FilePasses : List ℕ → Limit → Type 0
FilePasses f l = AppPasses f l ⊎ PassesNames f l
