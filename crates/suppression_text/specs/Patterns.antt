-- The meaning of a pattern: its text is read by the grammar of `regex`, and searched for anywhere in bytes.
use Rattle.std.specs.Prelude.{◌≡◌, ◌<◌, ◌&&◌, not, ℕ, Bool, false, nat_le, if◌then◌else◌, List, Option, None, is_some, chars, slice_index}
use Rattle.std.specs.List.{list_any}
use Rattle.std.specs.Option.{option_map_or}
use Rattle.std.specs.Str.{is_utf8}
use Rattle.regex_syntax.specs.Brackets.{Nested}
use Rattle.regex_syntax.specs.Grammar.{Names, read}
use Rattle.suppression_text.specs.declared.key.Key.{Key}
use Rattle.suppression_text.specs.Keys.{has_pattern}
use Rattle.regex.specs.Patterns.{Re, Config, default_config, find}

-- the options: those of `regex` for bytes
abbrev pub bytes_config : Config
bytes_config = record default_config { utf8 = false }

-- The result of parsing a text, with its nesting depth and the names of its groups. Bytes that are not UTF-8 are not a text.
unfoldable pub read_in : List ℕ → Option (Nested Re × Names)
read_in text = if is_utf8 text then read bytes_config (chars text) else None

-- the nesting limit of `regex`
abbrev pub nest_limit : ℕ
nest_limit = bytes_config.nest_limit

-- the text is a pattern: the grammar accepts it, and its nesting depth is within the limit
unfoldable pub is_pattern : List ℕ → Bool
is_pattern text = option_map_or (λ p. nat_le p.0.depth nest_limit) (read_in text) false

-- the value of the property must be a pattern, and is not one
abbrev pub is_no_pattern : Key → List ℕ → Bool
is_no_pattern key text = has_pattern key && not (is_pattern text)

-- the pattern has a match anywhere in the bytes
abbrev pub has_match : List ℕ → Re → Bool
has_match bytes pattern = is_some (find pattern bytes 0)

-- the pattern with this text has a match in the bytes
unfoldable pub is_found : List ℕ → List ℕ → Bool
is_found text bytes = option_map_or (λ p. has_match bytes p.0.value) (read_in text) false

-- a search for the second is a search for the pattern with this text
abbrev pub IsSearch : List ℕ → Re → Type 0
IsSearch text pattern = (bytes : List ℕ) → ((k : ℕ) → slice_index bytes k < 256) → is_found text bytes ≡ has_match bytes pattern

-- ---- several patterns

-- one of the patterns with these texts has a match in the bytes
abbrev pub is_one_found : List (List ℕ) → List ℕ → Bool
is_one_found texts bytes = list_any (λ text. is_found text bytes) texts

-- a search for one of the second is a search for one of the patterns with these texts
abbrev pub IsSearchForOne : List (List ℕ) → List Re → Type 0
IsSearchForOne texts patterns = (bytes : List ℕ) → ((k : ℕ) → slice_index bytes k < 256) → is_one_found texts bytes ≡ list_any (has_match bytes) patterns
