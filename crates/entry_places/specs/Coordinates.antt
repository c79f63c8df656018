-- Where entries are declared in the source (DWARF 5, sections 2.14 "Declaration Coordinates", 3.1.1 "Full and Partial
-- Compilation Unit Entries" and 6.2.4 "The Line Number Program Header"; DWARF 4, the same sections).
use Rattle.std.specs.Prelude.{ℕ, ◌==◌, if◌then◌else◌, List, Option, Some, None, pos}
use Rattle.abi_base.specs.declared.fault.Fault.{Fault}
use Rattle.abi_base.specs.Numbers.{text_at}
use Rattle.dwarf_forms.specs.declared.values.Value.{Value}
use Rattle.dwarf_forms.specs.declared.values.Value.TheVariants as value
use Rattle.dwarf_units.specs.Sequence.{entries_fault}
use Rattle.dwarf_tree.specs.Trees.{PlainTree, tree_of, entry_of, entry_at, own_of, root_of, head_at}
use Rattle.dwarf_files.specs.Names.{file_name_of, joined}
use Rattle.dwarf_files.specs.Steps.{◌>>=◌}
use Rattle.entry_places.specs.declared.coordinates.Coordinates.{Coordinates}

-- the sections on which declaration places depend: `.debug_info`, `.debug_abbrev`, `.debug_line`, `.debug_str` and
-- `.debug_line_str`
pub record DebugBytes : Type 0 where
  pub info : List ℕ
  pub abbrevs : List ℕ
  pub line : List ℕ
  pub str : List ℕ
  pub line_str : List ℕ

-- a source file, and a line in it
pub record PlainPlace : Type 0 where
  pub file : List ℕ
  pub line : ℕ

-- the entries of all units
abbrev pub entries_in : DebugBytes → PlainTree
entries_in s = tree_of s.info s.abbrevs

-- the sections, if no unit and no entry has a fault
abbrev pub unless_faulty : Option Fault → DebugBytes → Option DebugBytes
unless_faulty None s = Some s
unless_faulty (Some fault) s = None

abbrev pub if_sound : DebugBytes → Option DebugBytes
if_sound s = unless_faulty (entries_fault s.info s.abbrevs) s

-- a nonnegative constant (section 7.5.5 "Classes and Forms", class constant)
abbrev pub number_of : Option Value → Option ℕ
number_of (Some (value.Unsigned n)) = Some n
number_of (Some (value.Signed (pos n))) = Some n
number_of other = None

-- an offset into another section (section 7.5.5, classes lineptr and others)
abbrev pub section_offset_of : Option Value → Option ℕ
section_offset_of (Some (value.SectionOffset n)) = Some n
section_offset_of other = None

-- a string in `.debug_info` itself, or at an offset in `.debug_str` or `.debug_line_str` (section 7.5.5, class string)
abbrev pub text_of : DebugBytes → Option Value → Option (List ℕ)
text_of s (Some (value.Inline place)) = text_at s.info place
text_of s (Some (value.StrOffset place)) = text_at s.str place
text_of s (Some (value.LineOffset place)) = text_at s.line_str place
text_of s other = None

-- The value 0 means that no line was given (section 2.14).
abbrev pub if_given : ℕ → Option ℕ
if_given n = if n == 0 then None else Some n

-- The declaration coordinates of an entry: the number of a file from DW_AT_decl_file, which is 0x3a, and a line from
-- DW_AT_decl_line, which is 0x3b.
unfoldable pub coordinates_of : PlainTree → ℕ → Option Coordinates
coordinates_of t offset = do
  e ← entry_of t offset
  file ← number_of (own_of t e 0x3a)
  number ← number_of (own_of t e 0x3b)
  line ← if_given number
  Some (record { file = file; line = line; unit = (entry_at t e).unit })

-- the first value of an attribute of a unit's root
abbrev pub of_root : PlainTree → ℕ → ℕ → Option Value
of_root t unit name = do
  root ← root_of t unit
  own_of t root name

-- the offset of a unit's line program in `.debug_line`: DW_AT_stmt_list, which is 0x10
abbrev pub line_program_of : PlainTree → ℕ → Option ℕ
line_program_of t unit = section_offset_of (of_root t unit 0x10)

-- The directory in which a unit was compiled: DW_AT_comp_dir, which is 0x1b. In version 5 it is directory 0 of the line program
-- itself. A line program of version 4 does not have it, and its names are relative to it (section 6.2.4).
unfoldable pub directory_of : DebugBytes → PlainTree → ℕ → Option (List ℕ)
directory_of s t unit = if (head_at t unit).version == 4 then text_of s (of_root t unit 0x1b) else None

-- a name in a directory, if that is known
abbrev pub in_directory : Option (List ℕ) → List ℕ → List ℕ
in_directory None name = name
in_directory (Some directory) name = joined directory name

-- the file with this number in a unit's line program
unfoldable pub file_of : DebugBytes → PlainTree → ℕ → ℕ → Option (List ℕ)
file_of s t unit number = do
  program ← line_program_of t unit
  name ← file_name_of s.line s.str s.line_str program number
  Some (in_directory (directory_of s t unit) name)

-- the declaration place of the entry at an offset
unfoldable pub place_of : DebugBytes → ℕ → Option PlainPlace
place_of s offset = do
  c ← coordinates_of (entries_in s) offset
  file ← file_of s (entries_in s) c.unit c.file
  Some (record { file = file; line = c.line })
