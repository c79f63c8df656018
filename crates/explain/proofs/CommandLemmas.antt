-- The arguments of a command, by its place in the table of the sentences.
use Rattle.std.proofs.Common.{◌≡◌, ◌∙◌, ◌<◌, ℕ, zero, suc, Bool, true, false, List, [], ◌∷◌, bytes_eq, map, get_or, lit<, refl, sym, ap}
use Rattle.std.specs.Prelude.{codes, slice_get}
use Rattle.std.proofs.lemmas.Slice.Eq.{bytes_eq-Decides}
use Rattle.cli_args.specs.Commands.{command_named}
use Rattle.explain.specs.NearCommands.{arguments_of, command_names, is_named}

same_name : (a b : List ℕ) → bytes_eq a b ≡ true → a ≡ b
same_name a b is = (bytes_eq-Decides a b).0 is

other_way : (a b : List ℕ) → bytes_eq a b ≡ false → bytes_eq b a ≡ false
other_way a b is = cases (bytes_eq b a) refl
  where
    cases : (c : Bool) → bytes_eq b a ≡ c → c ≡ false
    cases true same = let wrong : true ≡ false = sym ((bytes_eq-Decides a b).1 (sym (same_name b a same))) ∙ is in cc
    cases false same = refl

-- the arguments of the first name that is the word, among these
abbrev arguments_at : (names : List (List ℕ)) (i : ℕ) → List ℕ
arguments_at names i = get_or (map arguments_of names) i (codes "other words")

-- a name that is the word has its arguments
named_at : (names : List (List ℕ)) (i : ℕ) (word : List ℕ) → is_named (slice_get names i) word ≡ true → arguments_at names i ≡ arguments_of word
named_at [] i word is = let wrong : false ≡ true = is in cc
named_at (name ∷ rest) zero word is = ap arguments_of (same_name name word is)
named_at (name ∷ rest) (suc i) word is = named_at rest i word is

pub found : (i : ℕ) (word : List ℕ) → is_named (slice_get command_names i) word ≡ true → arguments_at command_names i ≡ arguments_of word
found i word is = named_at command_names i word is

-- a word that is none of the names
not_named : (word : List ℕ)
    → bytes_eq word (codes "check") ≡ false → bytes_eq word (codes "app") ≡ false → bytes_eq word (codes "verify") ≡ false
    → bytes_eq word (codes "compose") ≡ false → bytes_eq word (codes "migrate") ≡ false → bytes_eq word (codes "exports") ≡ false
    → bytes_eq word (codes "entries") ≡ false → bytes_eq word (codes "layout") ≡ false → bytes_eq word (codes "trial") ≡ false
    → codes "other words" ≡ arguments_of word
unfolding command_named
not_named word a b c d e f g h i = simp (a, b, c, d, e, f, g, h, i)

-- none of the names before a place is the word
pub record NoneBefore (end : ℕ) (word : List ℕ) : Type 0 where
  pub none : (i : ℕ) → i < end → is_named (slice_get command_names i) word ≡ false

pub none_found : (word : List ℕ) → NoneBefore 9 word → codes "other words" ≡ arguments_of word
none_found word before =
    not_named word
    (other_way (codes "check") word (before.none 0 (lit< tt))) (other_way (codes "app") word (before.none 1 (lit< tt))) (other_way (codes "verify") word (before.none 2 (lit< tt)))
    (other_way (codes "compose") word (before.none 3 (lit< tt))) (other_way (codes "migrate") word (before.none 4 (lit< tt))) (other_way (codes "exports") word (before.none 5 (lit< tt)))
    (other_way (codes "entries") word (before.none 6 (lit< tt))) (other_way (codes "layout") word (before.none 7 (lit< tt))) (other_way (codes "trial") word (before.none 8 (lit< tt)))
