-- The bytes that the abbreviations of a table take at least, after one is appended.
use Rattle.std.proofs.Common.{◌≡◌, ℕ, ◌+◌, ◌-◌, ◌^◌, List, [], ◌∷◌, ◌++◌, min, arith}
use Rattle.std.specs.List.{sum_by}
use Rattle.std.proofs.lemmas.List.Sums.{sum_by_push}
use Rattle.dwarf_forms.specs.declared.abbreviations.abbrev.Abbrev.{Abbrev}
use Rattle.dwarf_forms.specs.abbreviations.LeastBytes.{least_bytes_in, least_bytes_of}

pub min-capped : (s t most : ℕ) → min (min s most + min t most) most ≡ min (s + t) most
min-capped s t most = omega arith

pub least_bytes_of-push : (abbrevs : List Abbrev) (made : Abbrev) (bytes more : ℕ) → bytes ≡ least_bytes_of abbrevs → more ≡ min (least_bytes_in made) (2 ^ 64 - 1)
    → min (bytes + more) (2 ^ 64 - 1) ≡ least_bytes_of (abbrevs ++ made ∷ [])
least_bytes_of-push abbrevs made bytes more e f = rw (e, f, sum_by_push least_bytes_in abbrevs made) (min-capped (sum_by least_bytes_in abbrevs) (least_bytes_in made) (2 ^ 64 - 1))
