-- The two lines that a trial prints.
use Rattle.std.specs.Prelude.{ℕ, ◌==◌, List, [], ◌∷◌, ◌++◌, count_by, codes, decimal}
use Rattle.std.specs.List.{concat}
use Rattle.hex.specs.Hex.{encode_lower}
use Rattle.sha2.specs.Sha256.{sha256}

-- the number of lines in a text: each ends with a line feed
abbrev pub line_count : List ℕ → ℕ
line_count text = count_by (λ b. b == 10) text

-- the line with the answer, the number of exports of the old library, and the number of lines that `check` prints
unfoldable pub count_line : ℕ → List ℕ → ℕ → ℕ → List ℕ
count_line n answer exports lines =
    concat (codes "trial " ∷ decimal n ∷ codes " " ∷ answer ∷ codes " exports " ∷ decimal exports ∷ codes " lines " ∷ decimal lines ∷ codes "\n" ∷ [])

-- the line of a digest, in lower-case hexadecimal digits
unfoldable pub digest_line : List ℕ → List ℕ
digest_line digest = concat (codes "digest " ∷ encode_lower digest ∷ codes "\n" ∷ [])

-- the lines of a trial of n functions, given the number of exports of the old library and the text that `check` prints
unfoldable pub summary_of : ℕ → List ℕ → ℕ → List ℕ → List ℕ
summary_of n answer exports text = count_line n answer exports (line_count text) ++ digest_line (sha256 text)
