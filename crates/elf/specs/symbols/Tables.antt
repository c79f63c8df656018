-- Tables of entries of one size that are linked to a string table (gABI, "Sections").
use Rattle.std.specs.Prelude.{ℕ, ◌%◌, ◌==◌, Bool, not, ◌||◌, is_none, List, length}
use Rattle.elf.specs.file.Elf.{SectionView, strings_of}

-- The entry size is wrong, the size of the table is not a multiple of it, or there is no string table.
abbrev pub is_table_bad : ℕ → List ℕ → SectionView → Bool
is_table_bad size f s = not (s.entsize == size) || (not (length s.bytes % size == 0) || is_none (strings_of f s.link))
