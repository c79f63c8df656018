-- The names of versions by index, as the reader stores them.
use Rattle.std.specs.Prelude.{◌≡◌, ℕ, nat_eq, List, Option}
use Rattle.std.specs.Borrow.{Bor}
use Rattle.std.specs.Option.{option_copied}
use Rattle.std.specs.HashMap.{HashMap, get}
use Rattle.std.specs.declared.hash.FoldHasher.{FoldHasher}
use Rattle.std.specs.declared.hash.BuildHasherDefault.{BuildHasherDefault}

-- a map from indexes to names
abbrev pub Names : Type 0
Names = HashMap ℕ (Bor (List ℕ)) (BuildHasherDefault FoldHasher)

-- the name under an index
abbrev pub name_under : Names → ℕ → Option (List ℕ)
name_under names index = option_copied (get nat_eq names index)

-- the map has the name of each index, and no other entry
abbrev pub IsNames : Names → (ℕ → Option (List ℕ)) → Type 0
IsNames names name_with = (index : ℕ) → name_under names index ≡ name_with index
