-- The names of files in a line program header (DWARF 5, section 6.2.4 "The Line Number Program Header"; DWARF 4, the same section).
use Rattle.std.specs.Prelude.{ℕ, ◌-◌, ◌==◌, ◌||◌, ◌&&◌, Bool, true, false, if◌then◌else◌, List, [], ◌∷◌, ◌++◌, take, Option, Some, None, slice_get}
use Rattle.abi_base.specs.Numbers.{text_at}
use Rattle.dwarf_forms.specs.declared.values.Value.{Value}
use Rattle.dwarf_forms.specs.declared.values.Value.TheVariants as value
use Rattle.dwarf_files.specs.declared.entries.Entry.{Entry}
use Rattle.dwarf_files.specs.declared.heads.Head.{Head}
use Rattle.dwarf_files.specs.Heads.{head_of}
use Rattle.dwarf_files.specs.Lists.{list_of}
use Rattle.dwarf_files.specs.Steps.{◌>>=◌}
use Rattle.dwarf_files.specs.Tables.{table_of}

-- The bytes up to the header's end, the two string sections, the version, and the offset of the tables.
pub record PlainHeader : Type 0 where
  pub bytes : List ℕ
  pub str : List ℕ
  pub line_str : List ℕ
  pub version : ℕ
  pub tables : ℕ

-- the table of files or of directories at an offset, and the offset after it
abbrev pub entries_of : PlainHeader → Bool → ℕ → Option (List Entry × ℕ)
entries_of h files at = if h.version == 5 then table_of h.bytes at else list_of files h.bytes at

-- The directories come before the files.
abbrev pub directories_of : PlainHeader → Option (List Entry × ℕ)
directories_of h = entries_of h false h.tables

abbrev pub files_of : PlainHeader → Option (List Entry × ℕ)
files_of h = do
  directories ← directories_of h
  entries_of h true directories.1

-- The index in its table of a file or directory with this number: version 5 counts from 0, version 4 from 1.
abbrev pub place_of : ℕ → ℕ → Option ℕ
place_of version n = if version == 5 then Some n else (if n == 0 then None else Some (n - 1))

unfoldable pub directory_of : PlainHeader → ℕ → Option Entry
directory_of h n = do
  place ← place_of h.version n
  directories ← directories_of h
  slice_get directories.0 place

unfoldable pub file_of : PlainHeader → ℕ → Option Entry
file_of h n = do
  place ← place_of h.version n
  files ← files_of h
  slice_get files.0 place

-- A name is in the header itself, or at an offset into `.debug_str` or `.debug_line_str`.
abbrev pub text_of : PlainHeader → Option Value → Option (List ℕ)
text_of h (Some (value.Inline place)) = text_at h.bytes place
text_of h (Some (value.StrOffset place)) = text_at h.str place
text_of h (Some (value.LineOffset place)) = text_at h.line_str place
text_of h other = None

-- the number of the directory of a file, which is 0 where its entry has none
abbrev pub number_of_directory : Option Value → Option ℕ
number_of_directory None = Some 0
number_of_directory (Some (value.Unsigned n)) = Some n
number_of_directory other = None

-- The name of the directory with this number. Directory 0 is the one in which the unit was compiled. A header of version 4 does not
-- have its name, which is empty here.
unfoldable pub directory_text_of : PlainHeader → ℕ → Option (List ℕ)
directory_text_of h n =
    if h.version == 4 && n == 0
    then Some []
    else (do
      entry ← directory_of h n
      text_of h entry.path)

-- whether a name begins with a slash
abbrev pub is_absolute : List ℕ → Bool
is_absolute [] = false
is_absolute (b ∷ others) = b == 47

abbrev pub is_nothing : List ℕ → Bool
is_nothing [] = true
is_nothing (b ∷ others) = false

-- A name in a directory: both, joined by a slash. An absolute name is unchanged, and so is a name in a directory whose name is
-- empty.
unfoldable pub joined : List ℕ → List ℕ → List ℕ
joined directory name = if is_absolute name || is_nothing directory then name else directory ++ 47 ∷ name

-- the name of a directory, joined to directory 0 where it is relative
unfoldable pub whole_directory_of : PlainHeader → ℕ → Option (List ℕ)
whole_directory_of h n = do
  first ← directory_text_of h 0
  if n == 0 then Some first else (do
    own ← directory_text_of h n
    Some (joined first own))

-- the name of a file entry, joined to its directory
unfoldable pub name_by : PlainHeader → Entry → Option (List ℕ)
name_by h entry = do
  name ← text_of h entry.path
  number ← number_of_directory entry.directory
  directory ← whole_directory_of h number
  Some (joined directory name)

-- the name of the file with this number
unfoldable pub name_of : PlainHeader → ℕ → Option (List ℕ)
name_of h n = do
  entry ← file_of h n
  name_by h entry

abbrev pub header_by : (line str line_str : List ℕ) → Head → PlainHeader
header_by line str line_str head = record { bytes = take head.end line; str = str; line_str = line_str; version = head.version; tables = head.tables }

-- the same for the header at an offset in `.debug_line`
unfoldable pub file_name_of : (line str line_str : List ℕ) → ℕ → ℕ → Option (List ℕ)
file_name_of line str line_str at n = do
  head ← head_of line at
  name_of (header_by line str line_str head) n
