-- How an application and a library fit together.
use Rattle.std.specs.Prelude.{◌==◌, ◌-◌, ℕ, List, [], ◌∷◌, codes, decimal, if◌then◌else◌, length, take}
use Rattle.std.specs.List.{concat}
use Rattle.explain.specs.Tags.{names_words}

-- the words about the imports of an application that bind to a library
abbrev pub links_words : (library : List ℕ) (bound : ℕ) → List ℕ
links_words library bound =
    if bound == 1 then concat (codes "1 of its imports binds to " ∷ library ∷ [])
    else concat (decimal bound ∷ codes " of its imports bind to " ∷ library ∷ [])

-- how many more there are
abbrev pub more_words : (more : ℕ) → List ℕ
more_words more = if more == 0 then [] else concat (codes " and " ∷ decimal more ∷ codes " more" ∷ [])

-- the words about the exports that a library lacks: the first ten names, those of them that are UTF-8, and how many more there are
abbrev pub lacking_words : (library : List ℕ) (names : List (List ℕ)) → List ℕ
lacking_words library names =
    concat (codes "it does not run with " ∷ library ∷ codes " either, which lacks" ∷ names_words (codes " ") (take 10 names) ∷ more_words (length names - 10) ∷ [])
