-- The storage for the parts of a type.
use Rattle.std.specs.Prelude.{ℕ, List, [], ◌∷◌, map}
use Rattle.std.specs.Option.{ForSome}
use Rattle.abi_types.specs.declared.parts.PartStorage.{PartStorage}
use Rattle.abi_types.specs.declared.parts.PartStorage.TheVariants as kept
use Rattle.abi_types.specs.Types.{PlainPart}
use Rattle.abi_types.specs.Parts.{plain_part}
use Rattle.abi_types.specs.Lookups.{IsLookup}

-- the stored parts
abbrev pub parts_in : {Ix : Type 0} → (Ix → ℕ) → PartStorage Ix → List PlainPart
parts_in number_of kept.Nothing = []
parts_in number_of (kept.One part) = plain_part number_of part ∷ []
parts_in number_of (kept.Many several) = map (plain_part number_of) several.value.items

-- the stored index, if any, is that of the parts
abbrev pub HasLookup : {Ix : Type 0} → (Ix → ℕ) → PartStorage Ix → Type 0
HasLookup number_of kept.Nothing = Unit {0}
HasLookup number_of (kept.One part) = Unit {0}
HasLookup number_of (kept.Many several) = ForSome several.value.lookup (λ there. IsLookup there.value (map (plain_part number_of) several.value.items))
