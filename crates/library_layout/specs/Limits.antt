-- The limits that a library and a tag pass where the structure with the tag is laid out.
use Rattle.std.specs.Prelude.{◌≡◌, ◌<◌, ◌⊎◌, ℕ, List, length, sum_by}
use Rattle.abi_base.specs.declared.limit.Limit.{Limit}
use Rattle.abi_base.specs.declared.limit.Limit.TheVariants.{LayoutNames}
use Rattle.abi_base.specs.Budgets.{allowed}
use Rattle.abi_types.specs.Types.{PlainPart, Member, PlainNode}
use Rattle.abi_types.specs.Graphs.{view_at}
use Rattle.library_read.specs.Libraries.{library_of}
use Rattle.library_read.specs.Limits.{LibraryPasses}
use Rattle.type_print.specs.Structures.{IsFirstTagged}

-- the letters of the name of a member
abbrev pub member_letters : PlainPart → ℕ
member_letters (Member name bit width to) = length name
member_letters others = 0

-- the names of these members have more letters than a layout of a file of this size in bytes may print
abbrev pub LettersPass : List PlainPart → ℕ → Limit → Type 0
LettersPass parts bytes l = (l ≡ LayoutNames) × (allowed LayoutNames bytes < sum_by member_letters parts)

-- those of the structure with the tag do
abbrev pub TagPasses : List PlainNode → List ℕ → ℕ → Limit → Type 0
TagPasses nodes tag bytes l = (number : ℕ) × IsFirstTagged nodes tag number × LettersPass (view_at nodes number).parts bytes l

-- The limit that a library passes where it is read, or where the structure with the tag is laid out.
abbrev pub LayoutPasses : List ℕ → List ℕ → Limit → Type 0
LayoutPasses library tag l = LibraryPasses library l ⊎ TagPasses (library_of library).graph tag (length library) l
