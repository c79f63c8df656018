-- The classes of characters in the values of a rule file, which take long to read, and the limit on them.
use Rattle.std.specs.Prelude.{◌≡◌, ◌<◌, ℕ, ◌+◌, ◌-◌, ◌*◌, ◌==◌, nat_lt, Bool, not, ◌&&◌, ◌||◌, if◌then◌else◌, List, length, drop, slice_index, position, sum_by, count_by}
use Rattle.std.specs.Char.{is_ascii_alphabetic}
use Rattle.std.specs.List.{range_with_len, list_any}
use Rattle.std.specs.Option.{option_map_or}
use Rattle.std.specs.Str.Lines.{lines}
use Rattle.abi_base.specs.declared.limit.Limit.{Limit}
use Rattle.abi_base.specs.declared.limit.Limit.TheVariants as limit
use Rattle.abi_base.specs.Budgets.{allowed}
use Rattle.suppression_text.specs.Lines.{is_equals}

-- the byte is an opening bracket, or a letter behind a backslash
abbrev pub is_class : List ℕ → ℕ → Bool
is_class text k = slice_index text k == 91 || (nat_lt 0 k && (slice_index text (k - 1) == 92 && is_ascii_alphabetic (slice_index text k)))

-- how many bytes of a text are such
abbrev pub class_count : List ℕ → ℕ
class_count text = count_by (is_class text) (range_with_len 0 (length text))

-- the byte is behind `(?`, and is not a colon: it begins flags of a group, as in `(?i)`
abbrev pub begins_flags : List ℕ → ℕ → Bool
begins_flags text k = nat_lt 1 k && (slice_index text (k - 2) == 40 && (slice_index text (k - 1) == 63 && not (slice_index text k == 58)))

-- the line has flags
abbrev pub has_flags : List ℕ → Bool
has_flags line = list_any (begins_flags line) (range_with_len 0 (length line))

-- the classes of a value, each of which counts as eight if there are flags: those that ignore case take longest
abbrev pub value_classes : List ℕ → List ℕ → ℕ
value_classes line value = class_count value * (if has_flags line then 8 else 1)

-- the classes of a line: those of the value behind its first `=`
unfoldable pub classes_of : List ℕ → ℕ
classes_of line = option_map_or (λ at. value_classes line (drop (at + 1) line)) (position is_equals line) 0

-- the classes of a rule file
abbrev pub file_classes : List ℕ → ℕ
file_classes bytes = sum_by classes_of (lines bytes)

-- how many a rule file may have
abbrev pub classes_allowed : ℕ
classes_allowed = allowed limit.PatternClasses 0

-- The limit is that on classes, and the rule file has more than it allows.
abbrev pub PassesClasses : List ℕ → Limit → Type 0
PassesClasses bytes l = (l ≡ limit.PatternClasses) × (classes_allowed < file_classes bytes)
