-- The bits that the rows of a layout cover, from the bytes of the library.
use Rattle.std.specs.Prelude.{ℕ, List}
use Rattle.library_read.specs.Libraries.{library_of}
use Rattle.library_layout.specs.Structures.{IsCoverIn}

-- The text is that of the rows of the structure with the tag. If none of them is an overlap or a member that ends outside, each bit
-- below the size is in exactly one row, and no row reaches past the size. If members overlap or one ends outside, there is a row
-- for it.
abbrev pub CoversEachBit : List ℕ → List ℕ → List ℕ → Type 0
CoversEachBit library tag text = IsCoverIn (library_of library).graph tag text
