-- Maps from numbers to the first place of each.
use Rattle.std.specs.Prelude.{◌≡◌, ℕ, Option, position}
use Rattle.std.specs.BTreeMap.{BTreeMap, get}
use Rattle.std.specs.Ordering.{nat_cmp}
use Rattle.dwarf_tree.specs.Trees.{PlainTree}
use Rattle.dwarf_entries.specs.Debug.{PlainDwarf}
use Rattle.dwarf_entries.specs.Chains.{has_signature}
use Rattle.dwarf_entries.specs.Addresses.{typed_of}

abbrev pub Places : Type 0
Places = BTreeMap ℕ ℕ

abbrev pub place_under : {P : Type 0} → BTreeMap ℕ P → ℕ → Option P
place_under places number = get nat_cmp places number

-- The map has the first unit with each signature.
pub record HoldUnits (places : Places) (t : PlainTree) : Type 0 where
  pub first : (signature : ℕ) → place_under places signature ≡ position (has_signature signature) t.units

-- The map has the first entry at each address.
pub record HoldEntries (places : Places) (d : PlainDwarf) : Type 0 where
  pub first : (address : ℕ) → place_under places address ≡ typed_of d address
