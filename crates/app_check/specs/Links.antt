-- How an application and a library fit together: which imports of the application bind to the library, and which ones the library
-- lacks although the application lists it as needed (System V gABI, "Dynamic Section").
use Rattle.std.specs.Prelude.{◌≡◌, ◌<◌, ◌⊎◌, ℕ, ◌+◌, ◌==◌, Bool, false, not, ◌&&◌, is_some, if◌then◌else◌, List, [], ◌∷◌, length, map, filter, count_by, slice_get, Option, Some, None}
use Rattle.std.specs.List.{list_any, sum_by}
use Rattle.std.specs.Option.{option_map_or}
use Rattle.std.specs.Str.{bytes_eq}
use Rattle.abi_base.specs.declared.fault.Fault.{Fault}
use Rattle.abi_base.specs.declared.limit.Limit.{Limit}
use Rattle.abi_base.specs.declared.limit.Limit.TheVariants as limit
use Rattle.abi_base.specs.Budgets.{BudgetState, allowed}
use Rattle.abi_base.specs.Numbers.{text_at}
use Rattle.abi_base.specs.Outcome.{first}
use Rattle.abi_types.specs.Exports.{PlainExport}
use Rattle.elf.specs.file.Elf.{elf_fault}
use Rattle.elf.specs.symbols.Dynamic.{tag_in, value_in, entry_numbers, dynamic_table, dynamic_strings, dynamic_fault, soname_of}
use Rattle.elf.specs.symbols.Symbols.{PlainSymbol, symbols_of, symbol_fault, PassesSymbols}
use Rattle.elf.specs.versions.Definitions.{PassesDefinitions}
use Rattle.elf.specs.versions.Versions.{PlainVersion, versions_of, version_fault}
use Rattle.elf_bind.specs.Binding.{bind_to}
use Rattle.elf_bind.specs.Exports.{exports_with, export_fault, PassesExports}
use Rattle.app_check.specs.Imports.{PlainImport, imports_of, app_fault, AppPasses}
use Rattle.app_check.specs.Used.{wanted_by, may_come_from}

-- ---- the library

-- the versions of all dynamic symbols of a file
abbrev pub symbol_versions : List ℕ → List (Option PlainVersion)
symbol_versions f = versions_of f (length (symbols_of f))

-- the exports of a file
unfoldable pub exports_of : List ℕ → List PlainExport
exports_of f = exports_with (symbols_of f) (symbol_versions f)

-- the first fault of a library: of the file, of its symbols, of its dynamic table, of its versions and of its exports
unfoldable pub library_fault : List ℕ → Option Fault
library_fault f =
    first (elf_fault f
    ∷ symbol_fault f
    ∷ dynamic_fault f
    ∷ version_fault f (length (symbols_of f))
    ∷ export_fault (symbols_of f) (symbol_versions f)
    ∷ [])

-- ---- needed libraries

-- the tag of an entry is DT_NEEDED, which is 1
abbrev pub is_needed : List ℕ → ℕ → Bool
is_needed table i = tag_in table i == 1

-- this text is at an offset
abbrev pub is_text_at : (strings text : List ℕ) → ℕ → Bool
is_text_at strings text at = option_map_or (λ found. bytes_eq found text) (text_at strings at) false

-- an entry names this library as needed
abbrev pub needs_in : (table strings library : List ℕ) → ℕ → Bool
needs_in table strings library i = is_needed table i && is_text_at strings library (value_in table i)

-- a dynamic table, with its strings, lists this library as needed
abbrev pub lists_in : (table strings library : List ℕ) → Bool
lists_in table strings library = list_any (needs_in table strings library) (entry_numbers table)

-- the dynamic table of a file lists this library as needed
abbrev pub lists : List ℕ → List ℕ → Bool
lists f library = lists_in (dynamic_table f) (dynamic_strings f) library

-- the same by a soname; a file without one is not listed
abbrev pub lists_soname : List ℕ → Option (List ℕ) → Bool
lists_soname f soname = option_map_or (lists f) soname false

-- ---- the imports

-- those that the file with this soname may define
abbrev pub imports_from : Option (List ℕ) → List PlainImport → List PlainImport
imports_from soname imports = filter (may_come_from soname) imports

-- the place of the export that an import binds to
abbrev pub place_of : List PlainExport → PlainImport → Option ℕ
place_of exports i = bind_to exports (wanted_by i)

-- an import binds to one of these exports
abbrev pub is_bound : List PlainExport → PlainImport → Bool
is_bound exports i = is_some (place_of exports i)

-- A program with this symbol does not run if no library defines the symbol: it is undefined (SHN_UNDEF is 0) and not weak (STB_WEAK
-- is 2).
abbrev pub must_be_given : PlainSymbol → Bool
must_be_given s = s.section == 0 && not (s.binding == 2)

-- an import has a version, and its symbol must be given
abbrev pub is_missed : List PlainSymbol → PlainImport → Bool
is_missed symbols i = is_some i.need && option_map_or must_be_given (slice_get symbols i.symbol) false

-- such an import binds to none of these exports
abbrev pub is_lacking : List PlainSymbol → List PlainExport → PlainImport → Bool
is_lacking symbols exports i = not (is_bound exports i) && is_missed symbols i

-- the names of these, in order
abbrev pub lacking_names : List PlainSymbol → List PlainExport → List PlainImport → List (List ℕ)
lacking_names symbols exports imports = map (λ i. i.name) (filter (is_lacking symbols exports) imports)

-- ---- an application and a library

-- the imports of the application that the library may define, by its soname
abbrev pub imports_between : (app library : List ℕ) → List PlainImport
imports_between app library = imports_from (soname_of library) (imports_of app)

-- how many of these imports bind to the library
abbrev pub bound_between : (app library : List ℕ) → ℕ
bound_between app library = count_by (is_bound (exports_of library)) (imports_between app library)

-- the names of the imports that the library lacks, in order; none if the application does not list the library as needed
abbrev pub lacking_between : (app library : List ℕ) → List (List ℕ)
lacking_between app library =
    if lists_soname app (soname_of library) then lacking_names (symbols_of app) (exports_of library) (imports_between app library) else []

-- the first fault of the application, else the first one of the library
abbrev pub links_fault : (app library : List ℕ) → Option Fault
links_fault app library = first (app_fault app ∷ library_fault library ∷ [])

-- ---- the limits

-- the limit on version definitions or on names of exports
abbrev pub ExportsPass : List ℕ → Limit → Type 0
ExportsPass f l = PassesDefinitions f l ⊎ PassesExports (symbols_of f) (symbol_versions f) l

-- the limit on symbols, on version definitions, or on names of exports
abbrev pub LibraryPasses : List ℕ → Limit → Type 0
LibraryPasses f l = PassesSymbols f l ⊎ ExportsPass f l

-- the limit is the budget's, and with this count added the budget takes more than it allows
abbrev pub Exceeds : BudgetState → ℕ → Limit → Type 0
Exceeds budget count l = (l ≡ budget.limit) × (budget.most < budget.taken + count)

-- what an entry counts: if its tag is DT_NEEDED, the bytes of the library's soname
abbrev pub needed_cost : (table library : List ℕ) → ℕ → ℕ
needed_cost table library i = if is_needed table i then length library else 0

-- The limit is that on needed files, and the entries count more than it allows for the bytes of the table and of its strings.
abbrev pub PassesNeededIn : (table strings library : List ℕ) → Limit → Type 0
PassesNeededIn table strings library l =
    (l ≡ limit.NeededFiles)
    × (allowed limit.NeededFiles (length table + length strings) < sum_by (needed_cost table library) (entry_numbers table))

abbrev pub PassesNeeded : (app library : List ℕ) → Limit → Type 0
PassesNeeded app library l = PassesNeededIn (dynamic_table app) (dynamic_strings app) library l

-- the same for a file that has a soname
abbrev pub PassesSoname : List ℕ → Option (List ℕ) → Limit → Type 0
PassesSoname app (Some soname) l = PassesNeeded app soname l
PassesSoname app None l = ⊥

-- a limit of the library, or that on needed files
abbrev pub OfferedPass : (app library : List ℕ) → Limit → Type 0
OfferedPass app library l = LibraryPasses library l ⊎ PassesSoname app (soname_of library) l

-- a limit of the application, or one of those
abbrev pub LinksPass : (app library : List ℕ) → Limit → Type 0
LinksPass app library l = AppPasses app l ⊎ OfferedPass app library l
