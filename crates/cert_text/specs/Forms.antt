-- The meaning of a line that has a form. Each form has exactly one spelling.
use Rattle.std.specs.Prelude.{◌+◌, ◌^◌, ◌==◌, ◌&&◌, ◌||◌, not, nat_lt, slice_index, ℕ, Bool, if◌then◌else◌, List, [], ◌∷◌, length, take, drop, position, Option, Some, None, option_and_then, Result, Ok, Err, codes, decimal}
use Rattle.std.specs.Option.{option_map}
use Rattle.std.specs.Str.{bytes_eq}
use Rattle.std.specs.Str.Parse.{digits_value}
use Rattle.hex.specs.Hex.{encode_lower, decode_sized}
use Rattle.hex.specs.declared.error.FromHexError.{FromHexError}
use Rattle.abi_types.specs.declared.kind.Way.{Way}
use Rattle.abi_types.specs.declared.kind.Way.TheVariants.{Direct, Pointer}
use Rattle.cert_text.specs.Grammar.{answer}
use Rattle.cert_text.specs.declared.line.Version.{Version}
use Rattle.cert_text.specs.declared.line.Version.TheVariants.{One, Two}
use Rattle.cert_text.specs.declared.line.Line.{Line}
use Rattle.cert_text.specs.declared.line.Line.TheVariants.{Bind, AlikeOld, AlikeNew, Pair, End}

-- ---- numbers and words

-- digits without a sign, and without a leading zero before other digits
abbrev pub is_plain : List ℕ → Bool
is_plain text = nat_lt 0 (length text) && (not (slice_index text 0 == 43) && (not (slice_index text 0 == 48) || length text == 1))

-- the number n, if the text is its spelling
abbrev pub number_if : ℕ → List ℕ → Option ℕ
number_if n text = if nat_lt n (2 ^ 64) && bytes_eq text (decimal n) then Some n else None

-- the number below 2^64 whose decimal spelling is the text, without a leading zero
unfoldable pub number_in : List ℕ → Option ℕ
number_in text = number_if (digits_value 10 text) text

-- the position of the first space
abbrev pub space : List ℕ → Option ℕ
space text = position (λ b. b == 32) text

-- a line feed
abbrev pub is_feed : ℕ → Bool
is_feed b = b == 10

abbrev pub number_before : List ℕ → ℕ → Option (ℕ × List ℕ)
number_before text at = option_map (λ n. (n, drop (at + 1) text)) (number_in (take at text))

-- the number before the first space, and the text after that space
unfoldable pub number_then : List ℕ → Option (ℕ × List ℕ)
number_then text = option_and_then (number_before text) (space text)

abbrev pub second_number : ℕ × List ℕ → Option (ℕ × ℕ)
second_number first = option_map (λ n. (first.0, n)) (number_in first.1)

-- two numbers, separated by one space
unfoldable pub numbers_in : List ℕ → Option (ℕ × ℕ)
numbers_in text = option_and_then second_number (number_then text)

-- the text after a word at its front
unfoldable pub behind : List ℕ → List ℕ → Option (List ℕ)
behind word text = if bytes_eq (take (length word) text) word then Some (drop (length word) text) else None

-- two numbers after a word
unfoldable pub numbers_behind : List ℕ → List ℕ → Option (ℕ × ℕ)
numbers_behind word text = option_and_then numbers_in (behind word text)

-- ---- digests

abbrev pub digest_if : List ℕ → Result (List ℕ) FromHexError → Option (List ℕ)
digest_if text (Ok digest) = if bytes_eq text (encode_lower digest) then Some digest else None
digest_if text (Err e) = None

-- the 32 bytes whose lower-case hexadecimal spelling is the text
abbrev pub digest_in : List ℕ → Option (List ℕ)
digest_in text = digest_if text (decode_sized text 32)

-- the digest after a word
unfoldable pub digest_behind : List ℕ → List ℕ → Option (List ℕ)
digest_behind word text = option_and_then digest_in (behind word text)

-- ---- lines

-- symbol numbers are below 2^32
abbrev pub bind_from : ℕ × ℕ → Option Line
bind_from pair = if nat_lt pair.0 (2 ^ 32) && nat_lt pair.1 (2 ^ 32) then Some (Bind pair.0 pair.1) else None

unfoldable pub bind_in : List ℕ → Option Line
bind_in text = option_and_then bind_from (numbers_behind (codes "bind ") text)

unfoldable pub alike_old_in : List ℕ → Option Line
alike_old_in text = option_map (λ pair. AlikeOld pair.0 pair.1) (numbers_behind (codes "alike old ") text)

unfoldable pub alike_new_in : List ℕ → Option Line
alike_new_in text = option_map (λ pair. AlikeNew pair.0 pair.1) (numbers_behind (codes "alike new ") text)

-- a pair line of version 1
abbrev pub plain_pair_in : List ℕ → Option Line
plain_pair_in text = option_map (λ pair. Pair pair.0 pair.1 Direct) (numbers_behind (codes "pair ") text)

unfoldable pub way_in : List ℕ → Option Way
way_in text = if bytes_eq text (codes "direct") then Some Direct else if bytes_eq text (codes "pointer") then Some Pointer else None

abbrev pub pair_by_way : ℕ → ℕ × List ℕ → Option Line
pair_by_way old second = option_map (λ way. Pair old second.0 way) (way_in second.1)

abbrev pub pair_from : ℕ × List ℕ → Option Line
pair_from first = option_and_then (pair_by_way first.0) (number_then first.1)

abbrev pub pair_fields : List ℕ → Option Line
pair_fields text = option_and_then pair_from (number_then text)

unfoldable pub pair_in : Version → List ℕ → Option Line
pair_in One text = plain_pair_in text
pair_in Two text = option_and_then pair_fields (behind (codes "pair ") text)

unfoldable pub end_in : List ℕ → Option Line
end_in text = if bytes_eq text (codes "end") then Some End else None

abbrev pub or_line : Option Line → Option Line → Option Line
or_line (Some line) next = Some line
or_line None next = next

-- the meaning of a line after the first four
unfoldable pub form_of : Version → List ℕ → Option Line
form_of v text = or_line (bind_in text) (or_line (alike_old_in text) (or_line (alike_new_in text) (or_line (pair_in v text) (end_in text))))
