-- The tags of the structures that the exports of a library reach.
use Rattle.std.specs.Prelude.{ℕ, List, Option}
use Rattle.library_read.specs.Libraries.{library_of}
use Rattle.library_layout.specs.Structures.{AreNearestIn, AreTagsIn, IsDeclaredIn, IsOtherIn}
use Rattle.library_layout.specs.declared.others.OtherTag.{OtherTag}

-- the tags are those of structures with definitions that the exports of the library reach, and no two are the same
abbrev pub AreNearTags : List ℕ → List (List ℕ) → Type 0
AreNearTags library tags = AreTagsIn (library_of library).graph tags

-- of the tags of structures with definitions that the exports of the library reach, these are the nearest to this tag, in order
abbrev pub AreNearestTags : List ℕ → List ℕ → List (List ℕ) → Type 0
AreNearestTags library tag tags = AreNearestIn (library_of library).graph tag tags

-- the exports of the library reach a structure with this tag and without a definition
abbrev pub IsDeclaredTag : List ℕ → List ℕ → Type 0
IsDeclaredTag library tag = IsDeclaredIn (library_of library).graph tag

-- what has this tag beside structures, of what the exports of the library reach: a union, or an enumeration if no union has it
abbrev pub IsOtherTag : List ℕ → List ℕ → Option OtherTag → Type 0
IsOtherTag library tag other = IsOtherIn (library_of library).graph tag other
