-- What `--version` prints, and the arguments that request it.
use Rattle.std.specs.Prelude.{◌==◌, ◌&&◌, ℕ, Bool, List, [], ◌∷◌, codes, length}
use Rattle.std.specs.List.{concat}
use Rattle.std.specs.Str.{bytes_eq}
use Rattle.cli_args.specs.Commands.{word_at}

-- the arguments are `--version` alone
abbrev pub is_version_alone : List (List ℕ) → Bool
is_version_alone words = length words == 1 && bytes_eq (word_at words 0) (codes "--version")

-- The version text of a program: its name and the release, the logic with which it is proved, and the formats that it reads and
-- writes. Every line ends with a line feed (10).
abbrev pub version_text : (program : List ℕ) → List ℕ
version_text program =
    concat (program ∷ codes " 0.2.0" ∷ (10 ∷ [])
    ∷ codes "proved with Rattle, logic dac8208d650f15bf" ∷ (10 ∷ [])
    ∷ codes "reads certificates of versions 1 and 2, writes version 2; documents of format 1" ∷ (10 ∷ []) ∷ [])
