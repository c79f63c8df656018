-- The breaks of a report as JSON (RFC 8259): an array with an object for each row.
use Rattle.std.specs.Prelude.{ℕ, zero, suc, ◌==◌, Bool, if◌then◌else◌, List, [], ◌∷◌, ◌++◌, take, flat_map, Some, codes, decimal}
use Rattle.std.specs.List.{concat}
use Rattle.std.specs.Str.{bytes_eq}
use Rattle.abi_types.specs.Rules.{rule_name, rule_word}
use Rattle.report.specs.declared.row.Row.{Row}
use Rattle.report.specs.declared.style.Style.TheVariants.{Own}
use Rattle.report.specs.declared.value.Value.{Value}
use Rattle.report.specs.declared.value.Value.TheVariants.{Nothing, Bytes, Bits, Count, Number, Word}
use Rattle.report.specs.Listening.{Voice}
use Rattle.json_report.specs.Strings.{escaped, string_text}

-- the offset of an entry, or null for 0, which means that there is none
unfoldable pub entry_text : ℕ → List ℕ
entry_text offset = if offset == 0 then codes "null" else decimal offset

-- A path has ` / ` between its steps. No step contains it, because spaces in names are not printed as themselves.
abbrev pub goes_on : List ℕ → Bool
goes_on bytes = bytes_eq (take 3 bytes) (32 ∷ 47 ∷ 32 ∷ [])

-- The bytes of a path after `passed` skipped ones, as strings with a comma between two steps.
unfoldable pub steps_behind : ℕ → List ℕ → List ℕ
steps_behind passed [] = []
steps_behind (suc passed) (b ∷ bytes) = steps_behind passed bytes
steps_behind zero (b ∷ bytes) = if goes_on (b ∷ bytes) then (34 ∷ 44 ∷ 34 ∷ []) ++ steps_behind 2 bytes else escaped b ++ steps_behind 0 bytes

-- an array of the steps of a path, which is empty if there is no path
unfoldable pub path_text : List ℕ → List ℕ
path_text [] = codes "[]"
path_text (b ∷ bytes) = concat (codes "[\"" ∷ steps_behind 0 (b ∷ bytes) ∷ codes "\"]" ∷ [])

-- the broken rule
unfoldable pub rule_text : Row → List ℕ
rule_text row = concat (codes "{\"rule\":\"" ∷ rule_word row.rule ∷ codes "\",\"name\":\"" ∷ rule_name row.rule ∷ codes "\"" ∷ [])

-- where it is broken: the label of the export, the steps as an array, and the whole path as one text
unfoldable pub place_text : Row → List ℕ
place_text row =
    concat
    (codes ",\"export\":" ∷ string_text row.export ∷ codes ",\"steps\":" ∷ path_text row.path ∷ codes ",\"path\":" ∷ string_text row.path ∷ [])

-- the old and the new state, as one text
unfoldable pub detail_text : Row → List ℕ
detail_text row = codes ",\"detail\":" ++ string_text row.detail

-- the part of which the rule speaks, or null
unfoldable pub part_text : List ℕ → List ℕ
part_text [] = codes "null"
part_text (b ∷ part) = string_text (b ∷ part)

-- the end of a value: its unit
unfoldable pub unit_text : List ℕ → List ℕ
unit_text unit = concat (codes ",\"unit\":\"" ∷ unit ∷ codes "\"}" ∷ [])

-- a number with its unit
unfoldable pub number_text : List ℕ → ℕ → List ℕ
number_text unit number = concat (codes "{\"value\":" ∷ decimal number ∷ unit_text unit ∷ [])

-- a word
unfoldable pub word_text : List ℕ → List ℕ
word_text word = concat (codes "{\"value\":" ∷ string_text word ∷ unit_text (codes "word") ∷ [])

-- a value with its unit, or null if there is none
abbrev pub value_text : Value → List ℕ
value_text Nothing = codes "null"
value_text (Bytes number) = number_text (codes "bytes") number
value_text (Bits number) = number_text (codes "bits") number
value_text (Count number) = number_text (codes "count") number
value_text (Number number) = number_text (codes "number") number
value_text (Word word) = word_text word

-- the part of which the rule speaks, and the old and the new value
unfoldable pub values_text : Row → List ℕ
values_text row =
    concat (codes ",\"part\":" ∷ part_text row.part ∷ codes ",\"was\":" ∷ value_text row.was ∷ codes ",\"is\":" ∷ value_text row.is ∷ [])

-- a member that holds the offset of an entry
unfoldable pub entry_member : List ℕ → ℕ → List ℕ
entry_member name offset = concat (codes ",\"" ∷ name ∷ codes "\":" ∷ entry_text offset ∷ [])

-- the entries of both types
unfoldable pub entries_text : Row → List ℕ
entries_text row = concat (entry_member (codes "old_entry") row.old_entry ∷ entry_member (codes "new_entry") row.new_entry ∷ codes "}" ∷ [])

-- the object of a row
unfoldable pub row_text : Row → List ℕ
row_text row = concat (rule_text row ∷ place_text row ∷ detail_text row ∷ values_text row ∷ entries_text row ∷ [])

-- the objects of rows, with a comma between two of them
abbrev pub rows_text : List Row → List ℕ
rows_text [] = []
rows_text (row ∷ rows) = row_text row ++ flat_map (λ (r : Row). codes "," ++ row_text r) rows

-- the array of the rows, in order
unfoldable pub breaks_text : List Row → List ℕ
breaks_text rows = concat (codes "[" ∷ rows_text rows ∷ codes "]" ∷ [])

-- the voice of a listener that closes with this array
abbrev pub json_voice : Voice
json_voice = record { style = Own; makes = λ rows. Some (breaks_text rows) }

-- An object with one more member at its end: the object's text without its closing brace, the name, and the text of the value.
unfoldable pub with_member : List ℕ → List ℕ → List ℕ → List ℕ
with_member opened name value = concat (opened ∷ codes ",\n\"" ∷ name ∷ codes "\":" ∷ value ∷ codes "}\n" ∷ [])
