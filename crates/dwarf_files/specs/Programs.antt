-- The header of a line program and its tables, as they are read once for all names.
use Rattle.std.specs.Prelude.{◌≡◌, ◌+◌, ℕ, List, Option, Some, length}
use Rattle.std.specs.Option.{option_map, option_map_or}
use Rattle.dwarf_files.specs.declared.entries.Entry.{Entry}
use Rattle.dwarf_files.specs.Heads.{head_of}
use Rattle.dwarf_files.specs.Names.{PlainHeader, directories_of, files_of, header_by, file_name_of}
use Rattle.dwarf_files.specs.Steps.{◌>>=◌}

-- the sections, and the offset of a header in `.debug_line`
pub record LineProgram : Type 0 where
  pub line : List ℕ
  pub str : List ℕ
  pub line_str : List ℕ
  pub at : ℕ

-- the name of the file with this number
abbrev pub name_in : LineProgram → ℕ → Option (List ℕ)
name_in p n = file_name_of p.line p.str p.line_str p.at n

-- the header, if it and its tables are whole
unfoldable pub header_of : LineProgram → Option PlainHeader
header_of p = do
  head ← head_of p.line p.at
  files ← files_of (header_by p.line p.str p.line_str head)
  Some (header_by p.line p.str p.line_str head)

-- the entries of a table, without the offset after it
abbrev pub listed : Option (List Entry × ℕ) → Option (List Entry)
listed table = option_map (λ r. r.0) table

-- the two tables of a header
abbrev pub HasTables : PlainHeader → List Entry → List Entry → Type 0
HasTables h directories files = (listed (directories_of h) ≡ Some directories) × (listed (files_of h) ≡ Some files)

-- how many entries a table has
abbrev pub count_in : Option (List Entry × ℕ) → ℕ
count_in table = option_map_or length (listed table) 0

-- how many directories and files a header has
abbrev pub entry_count_of : PlainHeader → ℕ
entry_count_of h = count_in (directories_of h) + count_in (files_of h)

-- the same of a line program: 0 where its header or a table is damaged
abbrev pub entry_count_in : LineProgram → ℕ
entry_count_in p = option_map_or entry_count_of (header_of p) 0
