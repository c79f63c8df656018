-- How many bytes of `.debug_abbrev` abbreviations take at least (DWARF 5, section 7.5.3 "Abbreviations Tables").
use Rattle.std.specs.Prelude.{ℕ, ◌+◌, ◌*◌, ◌-◌, ◌^◌, List, length, min}
use Rattle.std.specs.List.{sum_by}
use Rattle.dwarf_forms.specs.declared.abbreviations.abbrev.Abbrev.{Abbrev}

-- an abbreviation: a byte each for its code, its tag and whether it has children, two for each pair, and two that end the pairs
abbrev pub least_bytes_in : Abbrev → ℕ
least_bytes_in a = 5 + 2 * length a.specs

-- the abbreviations of a table, up to the largest number of 64 bits
abbrev pub least_bytes_of : List Abbrev → ℕ
least_bytes_of abbrevs = min (sum_by least_bytes_in abbrevs) (2 ^ 64 - 1)
