-- The rows of the commands in the code: the one with a word, and the lines of the usage.
use Rattle.std.proofs.Common.{◌≡◌, ◌∙◌, ◌<◌, ◌+◌, ℕ, Bool, cond, true, false, List, [], ◌∷◌, length, drop, get_or, Option, Some, option_map, map, bytes_eq, codes, ap, refl, sym}
use Rattle.std.specs.Prelude.{◌==◌, ◌++◌, find, if◌then◌else◌}
use Rattle.std.specs.List.{AllByRecursion, concat, onto_first, slice_split}
use Rattle.std.proofs.lemmas.Bool.{eqb-true}
use Rattle.std.proofs.lemmas.List.{append_assoc, append-nil, drop_more}
use Rattle.cli_args.specs.Commands.{IsRow, all_commands, command_named, named_among, row_of, takes_report, usage_lines, usage_of, usage_text}
use Rattle.cli_args.specs.declared.commands.CommandName.{CommandName}
use Rattle.cli_args.specs.declared.commands.CommandRow.{CommandRow}

abbrev names_of : List CommandRow → List CommandName
names_of rows = map (λ row. row.name) rows

-- ---- the row with a word

abbrev row_with : List ℕ → List CommandRow → Option CommandRow
row_with word rows = find (λ (row : CommandRow). bytes_eq word row.word.now) rows

either_row : (b : Bool) (row : CommandRow) (next : Option CommandRow) (other : Option CommandName) → option_map (λ row. row.name) next ≡ other
    → option_map (λ row. row.name) (cond b (Some row) next) ≡ cond b (Some row.name) other
either_row true row next other e = refl
either_row false row next other e = e

named : (rows : List CommandRow) (word : List ℕ) → AllByRecursion IsRow rows → option_map (λ row. row.name) (row_with word rows) ≡ named_among (names_of rows) word
named [] word all = refl
named (row ∷ rest) word all =
    either_row (bytes_eq word row.word.now) row (row_with word rest) _ (named rest word all.1)
    ∙ ap (λ (w : List ℕ). cond (bytes_eq word w) (Some row.name) (named_among (names_of rest) word)) all.0.word

pub found_named : (rows : List CommandRow) (word : List ℕ) → AllByRecursion IsRow rows → names_of rows ≡ all_commands → option_map (λ row. row.name) (row_with word rows) ≡ command_named word
unfolding command_named
found_named rows word all names = named rows word all ∙ ap (λ (ns : List CommandName). named_among ns word) names

-- ---- a line of the usage

-- the words of a text that has a space (32) between each two, and each word behind a space
abbrev words_in : List ℕ → List (List ℕ)
words_in text = slice_split (λ byte. byte == 32) text

abbrev spaced : List (List ℕ) → List ℕ
spaced words = concat (map (λ argument. 32 ∷ argument) words)

onto_spaced : (byte : ℕ) (words : List (List ℕ)) (text : List ℕ) → spaced words ≡ 32 ∷ text → spaced (onto_first byte words) ≡ 32 ∷ byte ∷ text
onto_spaced byte [] text e = absurd cc
onto_spaced byte (word ∷ rest) text e = cc

spaced_more : (byte : ℕ) (text : List ℕ) (is : Bool) → (byte == 32) ≡ is → spaced (words_in text) ≡ 32 ∷ text
    → spaced (cond is ([] ∷ words_in text) (onto_first byte (words_in text))) ≡ 32 ∷ byte ∷ text
spaced_more byte text true is e = let same = eqb-true byte 32 is in cc
spaced_more byte text false is e = onto_spaced byte (words_in text) text e

spaced_words : (text : List ℕ) → spaced (words_in text) ≡ 32 ∷ text
spaced_words [] = refl
spaced_words (byte ∷ text) = spaced_more byte text (byte == 32) refl (spaced_words text)

ended_word : (w r p a e : List ℕ) → w ++ (r ++ (p ++ (a ++ e))) ≡ (w ++ (r ++ (p ++ a))) ++ e
ended_word w r p a e = simp append_assoc

abbrev rules_of : Bool → List ℕ
rules_of takes = if takes then codes " [--rules FILE]" else []

abbrev pub report_of : Bool → List ℕ
report_of takes = if takes then codes " [--report text|table|counts|first|own]" else []

pub line_is : (row : CommandRow) (head : List ℕ) → IsRow row
    → concat (head ∷ codes "abi " ∷ row.word.now ∷ rules_of row.takes_rules ∷ report_of (takes_report row.makings) ∷ codes " " ∷ row.arguments.now ∷ (10 ∷ []) ∷ [])
    ≡ concat (head ∷ usage_of (row_of row.name) ∷ (10 ∷ []) ∷ [])
line_is row head is =
    let arguments = sym (spaced_words row.arguments.now) ∙ ap spaced is.arguments in
    let ended = ended_word row.word.now (rules_of row.takes_rules) (report_of (takes_report row.makings)) (32 ∷ row.arguments.now) (10 ∷ []) in
    ap (λ (t : List ℕ). head ++ (codes "abi " ++ t)) ended ∙ rw (is.word, ap rules_of is.rules, ap (λ makings. report_of (takes_report makings)) is.makings, arguments) refl

-- ---- all lines

-- the lines of the rows from a place on
abbrev lines_from : List CommandRow → ℕ → List ℕ → List ℕ
lines_from rows i head = usage_lines (names_of (drop i rows)) head

-- a text is the usage up to the row at a place, whose line begins with this word
abbrev pub IsBegun : List CommandRow → ℕ → (text head : List ℕ) → Type 0
IsBegun rows i text head = text ++ lines_from rows i head ≡ usage_text

pub more : (rows : List CommandRow) (i : ℕ) (row : CommandRow) (text next line head : List ℕ) → i < length rows
    → line ≡ concat (head ∷ usage_of (row_of (get_or rows i row).name) ∷ (10 ∷ []) ∷ []) → next ≡ text ++ line → IsBegun rows i text head → IsBegun rows (i + 1) next (codes "       ")
more rows i row text next line head below is grown so =
    let rest = lines_from rows (i + 1) (codes "       ") in
    let usage = usage_of (row_of (get_or rows i row).name) in
    let here : lines_from rows i head ≡ head ++ (usage ++ (10 ∷ (rest ++ []))) = ap (λ (rs : List CommandRow). usage_lines (names_of rs) head) (drop_more rows i row below) in
    let joined : (text ++ (head ++ (usage ++ (10 ∷ [])))) ++ rest ≡ text ++ (head ++ (usage ++ (10 ∷ (rest ++ [])))) = simp (append_assoc, append-nil) in
    ap (λ (t : List ℕ). t ++ rest) (grown ∙ ap (λ (t : List ℕ). text ++ t) is) ∙ joined ∙ ap (λ (t : List ℕ). text ++ t) (sym here) ∙ so
