-- Patterns that were read, and texts that are none.
use Rattle.std.proofs.Common.{◌≡◌, ◌<◌, ◌≤◌, ℕ, Bool, true, false, List, [], ◌∷◌, map, Option, None, Some, IsSomeAnd, IfSome, get_or, length, refl, sym, ◌∙◌, ap₂, chars, inl, inr, ◌⊎◌}
use Rattle.std.specs.Prelude.{◌≢◌, ◌↔◌, ◌||◌, nat_le, IsTrue, All, Any}
use Rattle.std.specs.List.{list_any}
use Rattle.std.specs.Option.{option_map_or}
use Rattle.std.specs.Str.{IsUtf8, is_utf8}
use Rattle.std.proofs.lemmas.Bool.{le-leb, lt-leb}
use Rattle.std.proofs.lemmas.List.Elements.{All-head, All-tail}
use Rattle.std.proofs.lemmas.List.Folds.{Any-from_list_any, list_any-from_Any}
use Rattle.std.proofs.lemmas.Str.{IsUtf8-from_is_utf8}
use Rattle.abi_base.proofs.lemmas.Bools.{same_tests}
use Rattle.abi_base.proofs.lemmas.Lists.{any-map}
use Rattle.regex_hir.specs.declared.hir.Hir.{Hir}
use Rattle.regex_hir.specs.Meaning.{meaning}
use Rattle.regex_syntax.specs.Brackets.{Nested}
use Rattle.regex_syntax.specs.Grammar.{Names, read, group_count}
use Rattle.regex_syntax.specs.declared.error.ErrorKind.{ErrorKind}
use Rattle.regex_syntax.specs.declared.error.ErrorKind.TheVariants.{OutOfMemory}
use Rattle.regex.specs.Patterns.{Re, SameCaptures, Reads, Refuses}
use Rattle.regex.specs.Bytes.{regex_pattern, regex_source, regex_config, IsReadFromSource}
use Rattle.regex.specs.declared.bytes.regex.Regex.{Regex}
use Rattle.regex.proofs.ForCallers.{is_match_alike}
use Rattle.suppression_text.specs.Patterns.{bytes_config, nest_limit, read_in, is_pattern, is_found, has_match, IsSearch, IsSearchForOne}

-- what is known of a tree that was read as the grammar reads it
abbrev AsRead : Hir → Names → Option (Nested Re × Names) → Type 0
AsRead hir names o = IsSomeAnd o (λ (re, found). (re.depth ≤ nest_limit) × SameCaptures (meaning hir) re.value × (names ≡ found) × (group_count (meaning hir) ≤ length names))

abbrev found_by : List ℕ → Option (Nested Re × Names) → Bool
found_by bytes o = option_map_or (λ p. has_match bytes p.0.value) o false

abbrev nests_well : Option (Nested Re × Names) → Bool
nests_well o = option_map_or (λ p. nat_le p.0.depth nest_limit) o false

by_reading : (o : Option (Nested Re × Names)) (hir : Hir) (names : Names) (bytes : List ℕ) → ((k : ℕ) → get_or bytes k 0 < 256) →
    AsRead hir names o → found_by bytes o ≡ has_match bytes (meaning hir)
by_reading None hir names bytes fit known = absurd known
by_reading (Some p) hir names bytes fit known = sym (is_match_alike known.1 bytes fit false 0)

well_by_reading : (o : Option (Nested Re × Names)) (hir : Hir) (names : Names) → AsRead hir names o → nests_well o ≡ true
well_by_reading None hir names known = absurd known
well_by_reading (Some p) hir names known = le-leb p.0.depth nest_limit known.0

read_as_text : (text : List ℕ) → is_utf8 text ≡ true → read_in text ≡ read bytes_config (chars text)
unfolding read_in
read_as_text text is = rw is refl

-- a regex that was read from a text searches for the pattern that the text writes
pub searches : (r : Regex) (text : List ℕ) → regex_source r ≡ text → regex_config r ≡ bytes_config → IsReadFromSource r → is_utf8 text ≡ true → IsSearch text (regex_pattern r)
unfolding Reads is_found
searches r text source config known is bytes fit =
    rw (read_as_text text is) (by_reading (read bytes_config (chars text)) r.pattern.program.hir _ bytes fit (rw (source, config) at known))

pub is_pattern-read : (text : List ℕ) (hir : Hir) (names : Names) → Reads bytes_config text hir names → is_utf8 text ≡ true → is_pattern text ≡ true
unfolding Reads is_pattern
is_pattern-read text hir names known is = rw (read_as_text text is) (well_by_reading (read bytes_config (chars text)) hir names known)

too_deep : (o : Option (Nested Re × Names)) → (o ≡ None) ⊎ IfSome o (λ (re, _). nest_limit < re.depth) → nests_well o ≡ false
too_deep None none = refl
too_deep (Some p) (inl is) = cc
too_deep (Some p) (inr deep) = lt-leb p.0.depth nest_limit deep

-- a text that `regex` refuses for its syntax is no pattern
pub is_pattern-refused : (text : List ℕ) (kind : ErrorKind) → kind ≢ OutOfMemory → Refuses bytes_config text kind → is_utf8 text ≡ true → is_pattern text ≡ false
unfolding Refuses is_pattern
is_pattern-refused text kind other refused is = elim refused [
  | inl memory ↦ absurd (other memory)
  | inr rest ↦ rw (read_as_text text is) (too_deep (read bytes_config (chars text)) (elim rest [ inl none ↦ inl none | inr deep ↦ inr deep.1 ]))
]

-- bytes that are no text are no pattern
pub is_pattern-bytes : (bytes : List ℕ) → is_utf8 bytes ≡ false → is_pattern bytes ≡ false
unfolding is_pattern read_in
is_pattern-bytes bytes is = rw is refl

from_test : (b : Bool) → (b ≡ true → ⊥) → b ≡ false
from_test true not_so = absurd (not_so refl)
from_test false not_so = refl

pub is_utf8-not : (bytes : List ℕ) → (IsUtf8 bytes → ⊥) → is_utf8 bytes ≡ false
is_utf8-not bytes not_so = from_test (is_utf8 bytes) (λ e. not_so (IsUtf8-from_is_utf8 bytes e))

-- ---- several patterns

abbrev IsReadByDefault : Regex → Type 0
IsReadByDefault r = (regex_config r ≡ bytes_config) × IsReadFromSource r

abbrev IsText : List ℕ → Type 0
IsText text = is_utf8 text ≡ true

-- regexes that were read from texts search for the patterns that the texts write
pub searches_for_one : (rs : List Regex) → All IsReadByDefault rs → All IsText (map regex_source rs) → IsSearchForOne (map regex_source rs) (map regex_pattern rs)
searches_for_one [] known utf8 bytes fit = refl
searches_for_one (r ∷ rs) known utf8 bytes fit =
    let here = All-head IsReadByDefault r rs known in
    let text = All-head IsText (regex_source r) (map regex_source rs) utf8 in
    let rest = searches_for_one rs (All-tail IsReadByDefault r rs known) (All-tail IsText (regex_source r) (map regex_source rs) utf8) bytes fit in
    ap₂ (λ (a b : Bool). a || b) (searches r (regex_source r) refl here.0 here.1 text bytes fit) rest

-- the answer that is yes exactly if one of them passes
pub is_any : (p : Re → Bool) (xs : List Re) (answer : Bool) → (IsTrue answer ↔ Any IsTrue (map p xs)) → answer ≡ list_any p xs
is_any p xs answer is =
    same_tests answer (list_any (λ (b : Bool). b) (map p xs))
    (λ yes. list_any-from_Any (λ (b : Bool). b) (map p xs) (is.0 yes))
    (λ yes. is.1 (Any-from_list_any (λ (b : Bool). b) (map p xs) yes))
    ∙ any-map (λ (b : Bool). b) p xs
