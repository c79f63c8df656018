-- Texts that fit in one line, whatever their characters are.
use Rattle.std.specs.Prelude.{ℕ, Bool, ◌==◌, ◌&&◌, ◌||◌, nat_le, nat_lt, not, if◌then◌else◌, List, [], ◌∷◌, flat_map, encode_utf8}
use Rattle.std.specs.List.{list_all}
use Rattle.std.specs.Str.{chars}
use Rattle.hex.specs.Hex.{encode_lower}

-- a control character (Unicode, general category Cc), such as a line feed, or the backslash
abbrev pub is_escaped : ℕ → Bool
is_escaped c = nat_lt c 0x20 || nat_le 0x7f c && nat_lt c 0xa0 || c == 0x5c

-- a character as itself, or escaped as `\x` and two hexadecimal digits
abbrev pub shown_char : ℕ → List ℕ
shown_char c = if is_escaped c then 0x5c ∷ 0x78 ∷ encode_lower (c ∷ []) else encode_utf8 c

-- the characters of a text in one line; different texts are shown differently
abbrev pub in_line : List ℕ → List ℕ
in_line text = flat_map shown_char (chars text)

-- a byte is not an ASCII control character
abbrev pub is_printed : ℕ → Bool
is_printed b = nat_le 0x20 b && not (b == 0x7f)

-- a text has no line feed and no other ASCII control character
abbrev pub is_one_line : List ℕ → Bool
is_one_line text = list_all is_printed text
