-- Strings and members of JSON (RFC 8259, sections 4 "Objects" and 7 "Strings").
use Rattle.std.specs.Prelude.{ℕ, ◌+◌, ◌/◌, ◌%◌, ◌==◌, ◌||◌, nat_lt, if◌then◌else◌, List, [], ◌∷◌, ◌++◌, flat_map, codes}
use Rattle.std.specs.List.{concat}

-- a hexadecimal digit
abbrev pub digit : ℕ → ℕ
digit n = if nat_lt n 10 then 48 + n else 87 + n

-- A byte in a string: a quotation mark or a backslash comes after a backslash, a control character is written as `\u00` and two
-- hexadecimal digits, and each other byte stands for itself.
unfoldable pub escaped : ℕ → List ℕ
escaped b =
    if b == 34 || b == 92
    then 92 ∷ b ∷ []
    else (if nat_lt b 32 then codes "\\u00" ++ digit (b / 16) ∷ digit (b % 16) ∷ [] else b ∷ [])

abbrev pub quote : List ℕ
quote = 34 ∷ []

-- a string in quotation marks
unfoldable pub string_text : List ℕ → List ℕ
string_text bytes = concat (quote ∷ flat_map escaped bytes ∷ quote ∷ [])
