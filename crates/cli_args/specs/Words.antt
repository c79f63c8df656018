-- Arguments as lists of bytes, and the form of an argument that requests help.
use Rattle.std.specs.Prelude.{◌≡◌, ◌≢◌, ℕ, List, ◌∷◌, ◌++◌, map, Some, codes, true, ◌⊎◌, option_map, option_and_then, slice_get, ◌==◌}
use Rattle.std.specs.Borrow.{Bor}
use Rattle.std.specs.List.{list_any}
use Rattle.std.specs.Str.{chars}
use Rattle.clap.specs.Lexer.{long_of, short_of}

abbrev pub texts : List (Bor (List ℕ)) → List (List ℕ)
texts words = map (λ (word : Bor (List ℕ)). word.now) words

-- the word is `--help`, with or without a value, or its first short option is `h` (104)
abbrev pub AsksForHelp : List ℕ → Type 0
AsksForHelp word = (option_map (λ p. p.0) (long_of word) ≡ Some (codes "help"))
    ⊎ (option_and_then (λ flags. slice_get (chars flags) 0) (short_of word) ≡ Some 104)

-- the word begins with `--help`, or with a single `-` (45) and contains an `h`
abbrev pub LooksForHelp : List ℕ → Type 0
LooksForHelp word = ((rest : List ℕ) × (word ≡ codes "--help" ++ rest))
    ⊎ ((rest : List ℕ) × (word ≡ 45 ∷ rest) × (slice_get rest 0 ≢ Some 45) × (list_any (λ c. c == 104) (chars rest) ≡ true))

-- the word does not begin with `-` (45), so it is not read as an option
abbrev pub IsNoOption : List ℕ → Type 0
IsNoOption word = slice_get word 0 ≢ Some 45
