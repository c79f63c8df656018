-- The layout of the structure with a tag, from the bytes of the library.
use Rattle.std.specs.Prelude.{ℕ, List}
use Rattle.library_read.specs.Libraries.{library_of}
use Rattle.type_print.specs.Structures.{IsUntagged}
use Rattle.library_layout.specs.Structures.{IsLayoutIn}

-- The text is the layout of the structure with the tag that the exports of the library reach; where several have definitions, of
-- the one with the earliest entry.
abbrev pub IsLayoutText : List ℕ → List ℕ → List ℕ → Type 0
IsLayoutText library tag text = IsLayoutIn (library_of library).graph tag text

-- the exports of the library reach no structure with a definition and this tag
abbrev pub HasNoTag : List ℕ → List ℕ → Type 0
HasNoTag library tag = IsUntagged (library_of library).graph tag
