-- What a new file needs of other files that an old one does not.
use Rattle.std.specs.Prelude.{◌⊎◌, ℕ, ◌&&◌, is_none, if◌then◌else◌, List}
use Rattle.abi_base.specs.declared.limit.Limit.{Limit}
use Rattle.new_needs.specs.Lacking.{lacking_needs, nothing}
use Rattle.new_needs.specs.Needed.{PlainNeeds}
use Rattle.new_needs.specs.Needs.{file_fault, needs_of, FilePasses}

-- what a new file needs that an old one does not; nothing where one of them has a fault
unfoldable pub new_needs : List ℕ → List ℕ → PlainNeeds
new_needs old new = if is_none (file_fault old) && is_none (file_fault new) then lacking_needs (needs_of old) (needs_of new) else nothing

-- a limit that reading one of them passes
abbrev pub EitherPasses : List ℕ → List ℕ → Limit → Type 0
EitherPasses old new l = FilePasses old l ⊎ FilePasses new l
