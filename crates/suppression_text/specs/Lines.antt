-- The lines of a rule file, and the form of each.
use Rattle.std.specs.Prelude.{◌+◌, ◌-◌, ◌==◌, ◌&&◌, ◌||◌, nat_lt, slice_index, ℕ, Bool, if◌then◌else◌, List, [], ◌∷◌, length, take, drop, map, position, Option, Some, None}
use Rattle.std.specs.Str.Lines.{lines}

-- ---- blanks

-- a space or a tab
abbrev pub is_blank : ℕ → Bool
is_blank b = b == 32 || b == 9

-- a text without leading blanks
unfoldable pub without_front : List ℕ → List ℕ
without_front [] = []
without_front (b ∷ text) = if is_blank b then without_front text else b ∷ text

-- a text without trailing blanks
unfoldable pub without_end : List ℕ → List ℕ
without_end [] = []
without_end (b ∷ text) = if is_blank b && length (without_end text) == 0 then [] else b ∷ without_end text

abbrev pub trimmed : List ℕ → List ℕ
trimmed text = without_end (without_front text)

-- ---- forms

-- the form of a line: a comment or empty, the head of a section, a property with its value, or none of these
pub data Form : Type 0 where
  Comment : Form
  Head : (name : List ℕ) → Form
  Property : (name value : List ℕ) → Form
  Other : Form

abbrev pub is_feed : ℕ → Bool
is_feed b = b == 10

abbrev pub is_equals : ℕ → Bool
is_equals b = b == 61

-- the line is empty, or begins with `#` or `;`
abbrev pub is_comment : List ℕ → Bool
is_comment line = length line == 0 || (slice_index line 0 == 35 || slice_index line 0 == 59)

-- the line begins with `[`, and its last byte is another one, `]`
abbrev pub is_head : List ℕ → Bool
is_head line = nat_lt 1 (length line) && (slice_index line 0 == 91 && slice_index line (length line - 1) == 93)

-- the bytes between the first and the last
abbrev pub inside : List ℕ → List ℕ
inside line = take (length line - 2) (drop 1 line)

-- a property with a value is split at the first `=`
abbrev pub split_form : List ℕ → Option ℕ → Form
split_form line None = Other
split_form line (Some at) = Property (trimmed (take at line)) (trimmed (drop (at + 1) line))

abbrev pub property_form : List ℕ → Form
property_form line = split_form line (position is_equals line)

abbrev pub form_within : List ℕ → Form
form_within line = if is_comment line then Comment else if is_head line then Head (trimmed (inside line)) else property_form line

-- the form of a line, ignoring blanks at both ends
unfoldable pub form_of : List ℕ → Form
form_of line = form_within (trimmed line)

-- the forms of the lines of a text, as `str::lines` splits it
unfoldable pub forms_of : List ℕ → List Form
forms_of text = map form_of (lines text)
