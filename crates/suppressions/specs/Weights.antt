-- The weight of the patterns of a rule file, and the letters of names that they may read.
use Rattle.std.specs.Prelude.{◌+◌, ◌-◌, ◌*◌, ◌^◌, ◌==◌, ℕ, max, min, if◌then◌else◌, List, [], ◌∷◌, length, Option, sum_by}
use Rattle.std.specs.Char.{is_ascii_alphabetic}
use Rattle.std.specs.Option.{option_map_or}
use Rattle.abi_base.specs.declared.limit.Limit.TheVariants as limit
use Rattle.abi_base.specs.Budgets.{allowed}
use Rattle.abi_types.specs.Exports.{PlainExport}
use Rattle.abi_types.specs.Libraries.{PlainLibrary}
use Rattle.abi_types.specs.Types.{PlainLabel, PlainNode}
use Rattle.suppression_text.specs.Keys.{has_pattern}
use Rattle.suppression_text.specs.Rules.{PlainProperty, PlainSection}

-- ---- the weight of patterns

-- The escaped letters of a pattern, as in `\w`: a backslash escapes the byte behind it.
unfoldable pub escaped_letters : List ℕ → ℕ
escaped_letters [] = 0
escaped_letters (b ∷ []) = 0
escaped_letters (b ∷ c ∷ text) = if b == 92 then (if is_ascii_alphabetic c then 1 else 0) + escaped_letters text else escaped_letters (c ∷ text)

-- A pattern weighs 64, its bytes, and 64 for each escaped letter, which may stand for a large class. Other values weigh nothing.
abbrev pub property_weight : PlainProperty → ℕ
property_weight p = if has_pattern p.key then escaped_letters p.value * 64 + 64 + length p.value else 0

abbrev pub section_weight : PlainSection → ℕ
section_weight section = sum_by property_weight section.properties

-- the weight of all patterns of sections
abbrev pub weight_of : List PlainSection → ℕ
weight_of sections = sum_by section_weight sections

-- how much they may weigh
abbrev pub weight_allowed : ℕ
weight_allowed = allowed limit.Patterns 0

-- ---- the letters that a pattern may read

abbrev pub text_length : Option (List ℕ) → ℕ
text_length text = option_map_or length text 0

-- For an export it reads the name, the symbol's name, the version or the soname: the longest counts.
abbrev pub export_letters : ℕ → PlainExport → ℕ
export_letters soname e = max (max (max (length e.declared) (length e.name)) (text_length e.version)) soname

-- for a name of a type, the name or the soname
abbrev pub label_letters : ℕ → PlainLabel → ℕ
label_letters soname l = max (length l.name) soname

abbrev pub node_letters : ℕ → PlainNode → ℕ
node_letters soname n = sum_by (label_letters soname) n.labels

-- the letters for all exports of a library and all names of its types
abbrev pub letters_of : PlainLibrary → ℕ
letters_of old = sum_by (export_letters (text_length old.soname)) old.exports + sum_by (node_letters (text_length old.soname)) old.graph

-- the number of these exports and names
abbrev pub names_of : PlainLibrary → ℕ
names_of old = length old.exports + sum_by (λ (n : PlainNode). length n.labels) old.graph

-- how many letters, times the weight of the patterns, may be read
abbrev pub letters_allowed : PlainLibrary → ℕ
letters_allowed old = allowed limit.PatternLetters (min (names_of old) (2 ^ 38 - 1))
