-- The size of the values of an entry in bytes, where the forms of its abbreviation have fixed sizes.
use Rattle.std.specs.Prelude.{◌≡◌, ◌≤◌, ℕ, ◌+◌, ◌-◌, length, List, Option, Some, Ok, slice_get}
use Rattle.dwarf_forms.specs.declared.abbreviations.abbrev.Abbrev.{Abbrev}
use Rattle.dwarf_forms.specs.declared.abbreviations.abbrev.Spec.{Spec}
use Rattle.dwarf_forms.specs.abbreviations.Abbrevs.{abbrev_of}
use Rattle.dwarf_forms.specs.Values.{place_after}
use Rattle.dwarf_units.specs.Units.{PlainUnit, values_at}

-- In each unit the values of these specifications end `size` bytes after they begin, if the unit does not end before.
pub record EndBehind (specs : List Spec) (size : ℕ) : Type 0 where
  pub ends : (u : PlainUnit) (entry at : ℕ) → size ≤ u.end - at → u.end ≤ length u.info → place_after (values_at u entry specs at) ≡ Ok (at + size)

-- the same for the abbreviation with a code
abbrev pub IsSizeIn : List Abbrev → ℕ → ℕ → Type 0
IsSizeIn abbrevs code size = (a : Abbrev) → abbrev_of abbrevs code ≡ Some a → EndBehind a.specs size

-- sizes by code, where they are known
abbrev pub AreSizes : List Abbrev → List (Option ℕ) → Type 0
AreSizes abbrevs sizes = (code size : ℕ) → slice_get sizes code ≡ Some (Some size) → IsSizeIn abbrevs code size
