-- The exports of a library, and the entries of debug information that say what they are.
use Rattle.std.specs.Prelude.{ℕ, ◌||◌, not, Bool, true, false, if◌then◌else◌, List, length, map, Option, Some, None}
use Rattle.std.specs.List.{filter_map}
use Rattle.std.specs.Option.{unwrap_or}
use Rattle.abi_types.specs.declared.export.SymbolKind.{SymbolKind}
use Rattle.abi_types.specs.declared.export.SymbolKind.TheVariants.{Tls, Ifunc}
use Rattle.abi_types.specs.Exports.{PlainExport}
use Rattle.dwarf_entries.specs.Addresses.{typed_of}
use Rattle.dwarf_entries.specs.Chains.{name_of}
use Rattle.dwarf_entries.specs.Debug.{PlainDwarf}
use Rattle.elf.specs.symbols.Symbols.{symbols_of}
use Rattle.elf.specs.versions.Versions.{PlainVersion, versions_of}
use Rattle.type_reach.specs.Views.{offset_of}
use Rattle.elf_bind.specs.Exports.{exports_with}
use Rattle.library_read.specs.Debug.{debug_of}

-- ---- by the symbols and their versions alone

-- the versions of all dynamic symbols of a file
abbrev pub symbol_versions : List ℕ → List (Option PlainVersion)
symbol_versions f = versions_of f (length (symbols_of f))

-- the exports of a file, in order of their symbols, each without a type
unfoldable pub untyped_exports_of : List ℕ → List PlainExport
untyped_exports_of f = exports_with (symbols_of f) (symbol_versions f)

-- ---- with the debug information

-- The value of a thread-local symbol is a place in each thread's block, and that of an indirect function the address of
-- another function, the one that chooses (gABI, "Symbol Table", and the GNU extension).
abbrev pub is_elsewhere : SymbolKind → Bool
is_elsewhere Tls = true
is_elsewhere Ifunc = true
is_elsewhere other = false

-- the value of the export's symbol is its own address
abbrev pub has_address : PlainExport → Bool
has_address e = not (e.absolute || is_elsewhere e.kind)

-- the position of the entry that says what an export is: the first one that stands for its address
unfoldable pub entry_for : PlainDwarf → PlainExport → Option ℕ
entry_for d e = if has_address e then typed_of d e.value else None

-- the name under which an export is declared: that of its entry, along the chain of origins, or else that of its symbol
abbrev pub declared_by : PlainDwarf → List ℕ → Option ℕ → List ℕ
declared_by d symbol None = symbol
declared_by d symbol (Some t) = unwrap_or (name_of d t) symbol

-- the export, with what its entry says: its declared name, and the offset of the entry, which is 0 where there is none
unfoldable pub typed : PlainDwarf → PlainExport → PlainExport
typed d e = record e { declared = declared_by d e.name (entry_for d e); entry = offset_of d.tree (entry_for d e) }

-- the positions of the entries of exports, in the order of the exports; an entry of two exports comes twice
unfoldable pub roots_among : PlainDwarf → List PlainExport → List ℕ
roots_among d exports = filter_map (entry_for d) exports

-- the exports of a file, in order of their symbols
unfoldable pub typed_exports_of : List ℕ → List PlainExport
typed_exports_of f = map (typed (debug_of f)) (untyped_exports_of f)

-- the entries from which the types of a file are reached
abbrev pub roots_of : List ℕ → List ℕ
roots_of f = roots_among (debug_of f) (untyped_exports_of f)
