-- The exports of a library that an application uses: those to which an import binds. An import with a version binds by name and
-- version if its file is the library's soname. One without a version binds like an export without a version.
use Rattle.std.specs.Prelude.{ℕ, ◌==◌, Bool, true, false, not, ◌||◌, if◌then◌else◌, List, [], ◌∷◌, length, map, Option, Some, None}
use Rattle.std.specs.List.{range_with_len, list_any}
use Rattle.std.specs.Option.{option_map, option_map_or}
use Rattle.abi_types.specs.declared.export.SymbolKind.TheVariants.{NoType}
use Rattle.abi_types.specs.declared.library.Marks.{Marks}
use Rattle.abi_types.specs.Exports.{PlainExport}
use Rattle.elf_bind.specs.Binding.{bind_to}
use Rattle.elf_bind.specs.Exports.{same_name}
use Rattle.app_check.specs.Imports.{PlainImport}

-- the export that an import looks for, with its name and version; binding reads no other field
abbrev pub wanted_by : PlainImport → PlainExport
wanted_by i = record {
  symbol = i.symbol;
  name = i.name;
  version = option_map (λ n. n.version) i.need;
  index = 0;
  hidden = false;
  kind = NoType;
  absolute = false;
  value = 0;
  size = 0;
  declared = i.name;
  entry = 0;
}

-- whether any file may define the import, or the file with this soname; a file without a soname defines only imports of the former
-- kind
abbrev pub may_come_from : Option (List ℕ) → PlainImport → Bool
may_come_from soname i = option_map_or (λ n. same_name (Some n.file) soname) i.need true

-- the position of the export to which an import binds, if there is one
abbrev pub place_bound : Option (List ℕ) → List PlainExport → PlainImport → Option ℕ
place_bound soname old i = if may_come_from soname i then bind_to old (wanted_by i) else None

-- whether this position was found
abbrev pub is_at : ℕ → Option ℕ → Bool
is_at k place = option_map_or (λ p. p == k) place false

-- whether an import binds to the export at a position
abbrev pub is_used : List PlainImport → Option (List ℕ) → List PlainExport → ℕ → Bool
is_used imports soname old k = list_any (λ i. is_at k (place_bound soname old i)) imports

-- the same for each export
unfoldable pub used_exports : List PlainImport → Option (List ℕ) → List PlainExport → List Bool
used_exports imports soname old = map (is_used imports soname old) (range_with_len 0 (length old))

-- each export is dropped that is dropped already or is not used
abbrev pub narrowed : List Bool → List Bool → List Bool
narrowed (dropped ∷ others) (used ∷ rest) = (dropped || not used) ∷ narrowed others rest
narrowed dropped used = []

-- the marks, which also drop each unused export; everything else is kept
abbrev pub narrowed_marks : Marks → List Bool → Marks
narrowed_marks marks used = record marks { exports = narrowed marks.exports used }
