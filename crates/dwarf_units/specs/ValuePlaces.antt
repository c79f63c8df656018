-- Where the values of an entry are, as a fact about the bytes.
use Rattle.std.specs.Prelude.{◌≡◌, ◌<◌, ℕ, length, List, Ok, Some}
use Rattle.abi_base.specs.Leb.{uleb_at}
use Rattle.dwarf_forms.specs.abbreviations.Abbrevs.{specs_run}
use Rattle.dwarf_units.specs.declared.entry.Entry.{Entry}
use Rattle.dwarf_units.specs.Units.{PlainUnit, unit_bytes, values_at}

-- The values of an entry follow its code, by the attribute specifications at the offset that the entry gives.
pub record IsTold (abbrevs : List ℕ) (u : PlainUnit) (e : Entry) : Type 0 where
  pub before : e.offset < u.end
  pub inside : e.specs_from < length abbrevs
  pub code : ℕ × ℕ
  pub after : ℕ
  pub begins : uleb_at (unit_bytes u) e.offset ≡ Some code
  pub values : values_at u e.offset (specs_run abbrevs e.specs_from).items code.1 ≡ Ok (e.attributes, after)
