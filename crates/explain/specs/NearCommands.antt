-- The command that is offered in place of an unknown one, and the arguments of a command.
use Rattle.std.specs.Prelude.{◌≡◌, ◌==◌, ◌<◌, ◌≤◌, ℕ, Bool, false, List, [], ◌∷◌, Option, Some, None, codes, decimal, if◌then◌else◌, length, nat_eq, slice_get}
use Rattle.std.specs.List.{concat, join_with_byte}
use Rattle.std.specs.Option.{option_map_or}
use Rattle.std.specs.Str.{bytes_eq}
use Rattle.cli_args.specs.Commands.{command_named, row_of}
use Rattle.strsim.specs.Edits.{levenshtein_row}

-- the names of the commands, in the order in which a sentence lists them
abbrev pub command_names : List (List ℕ)
command_names =
    codes "check" ∷ codes "app" ∷ codes "verify" ∷ codes "compose" ∷ codes "migrate" ∷ codes "exports" ∷ codes "entries" ∷ codes "layout" ∷ codes "trial" ∷ []

-- the Levenshtein distance: the least number of bytes to insert, remove or replace on the way from one word to the other
abbrev pub edits : (from to : List ℕ) → ℕ
edits from to = levenshtein_row nat_eq from to (length to)

-- the word has at most 16 bytes, and is at most two edits away from the name
abbrev pub IsNear : (word name : List ℕ) → Type 0
IsNear word name = (length word ≤ 16) × (edits word name ≤ 2)

-- the name is the nearest one to the word, and the first of those that are equally near
pub record IsNearest (word name : List ℕ) : Type 0 where
  pub place : ℕ
  pub named : slice_get command_names place ≡ Some name
  pub near : IsNear word name
  pub least : (k : ℕ) (other : List ℕ) → slice_get command_names k ≡ Some other → edits word name ≤ edits word other
  pub first : (k : ℕ) (other : List ℕ) → k < place → slice_get command_names k ≡ Some other → edits word name < edits word other

-- the command that is offered for a word: the nearest one, and none if none is near
abbrev pub IsOffered : (word : List ℕ) → Option (List ℕ) → Type 0
IsOffered word (Some name) = IsNearest word name
IsOffered word None = (k : ℕ) (name : List ℕ) → slice_get command_names k ≡ Some name → ¬ (IsNear word name)

-- the words that offer a command in place of an unknown one
abbrev pub offer_words : (name : List ℕ) → List ℕ
offer_words name = concat (codes "it is no command; did you mean " ∷ name ∷ codes "?" ∷ [])

-- names in one text, with commas between them and `and` before the last one
abbrev pub listed : List (List ℕ) → List ℕ
listed [] = []
listed (name ∷ []) = name
listed (name ∷ last ∷ []) = concat (name ∷ codes " and " ∷ last ∷ [])
listed (name ∷ next ∷ third ∷ rest) = concat (name ∷ codes ", " ∷ listed (next ∷ third ∷ rest) ∷ [])

-- the words that list all commands
abbrev pub list_words : List ℕ
list_words = concat (codes "it is no command; the commands are " ∷ listed command_names ∷ [])

abbrev pub OffersIn : (words : List ℕ) → Option (List ℕ) → Type 0
OffersIn words (Some name) = words ≡ offer_words name
OffersIn words None = words ≡ list_words

-- the words about an unknown command: they offer the nearest one, and list all if none is near
pub record IsOfUnknown (word words : List ℕ) : Type 0 where
  pub near : Option (List ℕ)
  pub offered : IsOffered word near
  pub offers : OffersIn words near

-- ---- arguments

-- the name is this word
abbrev pub is_named : Option (List ℕ) → (word : List ℕ) → Bool
is_named None word = false
is_named (Some name) word = bytes_eq name word

-- the arguments of a command as the usage names them, with a space (32) between them
abbrev pub arguments_of : (command : List ℕ) → List ℕ
arguments_of command = option_map_or (λ name. join_with_byte 32 (row_of name).arguments) (command_named command) (codes "other words")

-- the words about a command that is given this many arguments, which is not their number
abbrev pub count_words : (command : List ℕ) (given : ℕ) → List ℕ
count_words command given =
    if given == 1 then concat (codes "it takes " ∷ arguments_of command ∷ codes ", and 1 word is given" ∷ [])
    else concat (codes "it takes " ∷ arguments_of command ∷ codes ", and " ∷ decimal given ∷ codes " words are given" ∷ [])
