-- The imports of an application, from its dynamic symbols, their version indexes and its version needs, and the first fault of the
-- application.
use Rattle.std.specs.Prelude.{◌≡◌, ◌<◌, ◌⊎◌, ℕ, ◌+◌, ◌*◌, ◌==◌, nat_le, Bool, not, ◌||◌, ◌&&◌, is_none, is_some, if◌then◌else◌, List, [], ◌∷◌, length, map, slice_get, Option, Some, None, unwrap_or}
use Rattle.std.specs.List.{filter_map, sum_by}
use Rattle.std.specs.Option.{option_map_or}
use Rattle.abi_base.specs.declared.fault.Fault.{Fault}
use Rattle.abi_base.specs.declared.fault.FaultKind.TheVariants as kind
use Rattle.abi_base.specs.declared.limit.Limit.{Limit}
use Rattle.abi_base.specs.declared.limit.Limit.TheVariants as limit
use Rattle.abi_base.specs.Budgets.{allowed}
use Rattle.abi_base.specs.Elf.{stb_global, stb_weak, stb_gnu_unique, shn_undef, sym_size}
use Rattle.abi_base.specs.GnuVersions.{ver_ndx_global}
use Rattle.abi_base.specs.Outcome.{fault_if, first}
use Rattle.elf.specs.file.Elf.{elf_fault}
use Rattle.elf.specs.symbols.Dynamic.{dynamic_fault}
use Rattle.elf.specs.symbols.Symbols.{PlainSymbol, symbols_of, symbol_fault, PassesSymbols}
use Rattle.elf.specs.versions.Definitions.{PassesDefinitions}
use Rattle.elf.specs.versions.Versions.{version_fault}
use Rattle.elf_needs.specs.Indexes.{indexes_of}
use Rattle.elf_needs.specs.Needs.{PlainNeed, need_with, needs_fault, PassesNeeds}

-- an import, without the addresses of its names in memory
pub record PlainImport : Type 0 where
  pub symbol : ℕ
  pub name : List ℕ
  pub need : Option PlainNeed

-- the bytes of the names of the version and of the file that an import needs
abbrev pub need_bytes : PlainImport → ℕ
need_bytes i = option_map_or (λ n. length n.version + length n.file) i.need 0

-- the same of all imports, where each one counts, also if it shares its names with others
abbrev pub all_need_bytes : List PlainImport → ℕ
all_need_bytes imports = sum_by need_bytes imports

-- how many there may be with this many symbols, by the bytes of their records
abbrev pub most_need_bytes : ℕ → ℕ
most_need_bytes symbols = allowed limit.ImportNeeds (sym_size * symbols)

-- Other files may define the symbol: it is not the reserved one, has the binding GLOBAL, WEAK or GNU_UNIQUE, and has a name.
abbrev pub is_linked : PlainSymbol → Bool
is_linked s =
    not (s.number == 0)
    && (s.binding == stb_global || (s.binding == stb_weak || s.binding == stb_gnu_unique))
    && not (length s.name == 0)

-- the version index of a symbol, from the list of all
abbrev pub index_in : List ℕ → ℕ → ℕ
index_in indexes i = unwrap_or (slice_get indexes i) ver_ndx_global

-- the version and the file for a version index, from those of auxiliary entries; None at the indexes of symbols without a version
abbrev pub need_by : (ℕ → Option PlainNeed) → ℕ → Option PlainNeed
need_by named index = if nat_le index ver_ndx_global then None else named index

-- the import for a symbol: other files may define it, and it is undefined or its version index is that of an auxiliary entry
abbrev pub import_with : PlainSymbol → Option PlainNeed → Option PlainImport
import_with s need = if is_linked s && (s.section == shn_undef || is_some need) then Some (record { symbol = s.number; name = s.name; need = need }) else None

abbrev pub import_of : (ℕ → Option PlainNeed) → List ℕ → PlainSymbol → Option PlainImport
import_of named indexes s = import_with s (need_by named (index_in indexes s.number))

-- the imports among these symbols, in order
abbrev pub imports_with : (ℕ → Option PlainNeed) → List ℕ → List PlainSymbol → List PlainImport
imports_with named indexes symbols = filter_map (import_of named indexes) symbols

-- The fault of an undefined import whose version index is 2 or more and is not that of an auxiliary entry.
abbrev pub import_fault_of : (ℕ → Option PlainNeed) → List ℕ → PlainSymbol → Option Fault
import_fault_of named indexes s =
    fault_if (is_linked s && s.section == shn_undef && not (nat_le (index_in indexes s.number) ver_ndx_global) && is_none (named (index_in indexes s.number))) kind.ImportVersion s.number

abbrev pub import_fault_with : (ℕ → Option PlainNeed) → List ℕ → List PlainSymbol → Option Fault
import_fault_with named indexes symbols = first (map (import_fault_of named indexes) symbols)

-- ---- of a file

-- the version indexes of the symbols of a file
abbrev pub symbol_indexes : List ℕ → List ℕ
symbol_indexes f = indexes_of f (length (symbols_of f))

-- the imports of a file, in the order of their symbols
unfoldable pub imports_of : List ℕ → List PlainImport
imports_of f = imports_with (need_with f) (symbol_indexes f) (symbols_of f)

-- the first fault of the imports of a file
abbrev pub imports_fault : List ℕ → Option Fault
imports_fault f = import_fault_with (need_with f) (symbol_indexes f) (symbols_of f)

-- the file, its symbols, its dynamic table, its version definitions, its version needs, and the versions of its imports
abbrev pub app_faults : List ℕ → List (Option Fault)
app_faults f =
    elf_fault f
    ∷ symbol_fault f
    ∷ dynamic_fault f
    ∷ version_fault f (length (symbols_of f))
    ∷ needs_fault f
    ∷ imports_fault f
    ∷ []

-- the first fault of an application
unfoldable pub app_fault : List ℕ → Option Fault
app_fault f = first (app_faults f)

-- ---- the limits

-- The limit is that on what imports need, and the imports among these symbols count more than it allows.
abbrev pub PassesImportsWith : (ℕ → Option PlainNeed) → List ℕ → List PlainSymbol → Limit → Type 0
PassesImportsWith named indexes symbols l =
    (l ≡ limit.ImportNeeds) × (most_need_bytes (length symbols) < all_need_bytes (imports_with named indexes symbols))

-- the same for the imports of a file
abbrev pub PassesImports : List ℕ → Limit → Type 0
PassesImports f l = (l ≡ limit.ImportNeeds) × (most_need_bytes (length (symbols_of f)) < all_need_bytes (imports_of f))

-- the limit on version definitions, on version needs or on what imports need
abbrev pub ImportsPass : List ℕ → Limit → Type 0
ImportsPass f l = PassesDefinitions f l ⊎ (PassesNeeds f l ⊎ PassesImports f l)

-- the limit on symbols, or one of those
abbrev pub AppPasses : List ℕ → Limit → Type 0
AppPasses f l = PassesSymbols f l ⊎ ImportsPass f l
