-- The parts of a declaration place.
use Rattle.std.specs.Prelude.{◌≡◌, ◌≢◌, ◌⊎◌, ℕ, List, Some}
use Rattle.dwarf_tree.specs.Trees.{entry_at, entry_of, own_of, root_of}
use Rattle.dwarf_files.specs.Names.{file_name_of, joined}
use Rattle.entry_places.specs.Coordinates.{DebugBytes, PlainPlace, entries_in, number_of, section_offset_of, directory_of}

-- The entry at an offset has a file and a line, the root of its unit has the offset of a line program, and that program has a
-- name for the file, which is relative to the unit's directory if that is known.
pub record IsMade (s : DebugBytes) (offset : ℕ) (place : PlainPlace) : Type 0 where
  pub e : ℕ
  pub root : ℕ
  pub number : ℕ
  pub program : ℕ
  pub name : List ℕ
  pub begins : entry_of (entries_in s) offset ≡ Some e
  pub file : number_of (own_of (entries_in s) e 0x3a) ≡ Some number
  pub line : number_of (own_of (entries_in s) e 0x3b) ≡ Some place.line
  pub given : place.line ≢ 0
  pub unit : root_of (entries_in s) (entry_at (entries_in s) e).unit ≡ Some root
  pub stands : section_offset_of (own_of (entries_in s) root 0x10) ≡ Some program
  pub named : file_name_of s.line s.str s.line_str program number ≡ Some name
  pub is : (place.file ≡ name) ⊎ ((directory : List ℕ) × (directory_of s (entries_in s) (entry_at (entries_in s) e).unit ≡ Some directory) × (place.file ≡ joined directory name))
