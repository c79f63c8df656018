-- How a look-up finds the abbreviation with a code. Producers number the codes of a table 1, 2, 3, .., so code c is usually
-- at position c - 1. The standard allows any numbers, so a map has the positions of the others.
use Rattle.std.specs.Prelude.{◌≡◌, ℕ, ◌-◌, ◌<◌, ◌==◌, if◌then◌else◌, List, length, slice_get, Option, Some, None, option_and_then}
use Rattle.std.specs.Option.{option_or}
use Rattle.std.specs.BTreeMap.{BTreeMap, get}
use Rattle.std.specs.Ordering.{nat_cmp}
use Rattle.dwarf_forms.specs.declared.abbreviations.abbrev.Abbrev.{Abbrev}
use Rattle.dwarf_forms.specs.abbreviations.Abbrevs.{abbrev_of}

-- a map from codes to positions
abbrev pub Elsewhere : Type 0
Elsewhere = BTreeMap ℕ ℕ

-- an abbreviation, if it is there and has this code
abbrev pub if_of_code : ℕ → Option Abbrev → Option Abbrev
if_of_code code None = None
if_of_code code (Some a) = if a.code == code then Some a else None

-- the abbreviation with a code at the position of the code
abbrev pub at_own_place : List Abbrev → ℕ → Option Abbrev
at_own_place abbrevs code = if_of_code code (slice_get abbrevs (code - 1))

-- the abbreviation at the position that the map has for a code
abbrev pub at_kept_place : List Abbrev → Elsewhere → ℕ → Option Abbrev
at_kept_place abbrevs elsewhere code = option_and_then (slice_get abbrevs) (get nat_cmp elsewhere code)

-- An abbreviation with a code, if there is one, is at one of the two positions. The map's positions are inside the list.
pub record Placed (abbrevs : List Abbrev) (elsewhere : Elsewhere) : Type 0 where
  pub finds : (code : ℕ) → option_or (at_own_place abbrevs code) (at_kept_place abbrevs elsewhere code) ≡ abbrev_of abbrevs code
  pub inside : (code place : ℕ) → get nat_cmp elsewhere code ≡ Some place → place < length abbrevs
