-- The values of rows on exports, and the parts of those on types.
use Rattle.std.specs.Prelude.{ℕ, List, [], ◌∷◌, Option, Some, None}
use Rattle.abi_types.specs.declared.place.Place.{Place}
use Rattle.abi_types.specs.declared.rule.Rule.{Rule}
use Rattle.abi_types.specs.declared.rule.Rule.TheVariants.{ExportPresence, ExportVersion, ExportKind, ExportSize}
use Rattle.abi_types.specs.Exports.{PlainExport}
use Rattle.abi_types.specs.Kinds.{kind_word}
use Rattle.abi_types.specs.Shown.{label, shown}
use Rattle.abi_types.specs.Types.{PlainPart, Param, PlainView}
use Rattle.report.specs.declared.value.Value.{Value}
use Rattle.report.specs.declared.value.Value.TheVariants.{Nothing, Bytes, Word}
use Rattle.report.specs.Details.{param_place}

-- a tag, or no value if it is missing
abbrev pub tag_value : List ℕ → Value
tag_value [] = Nothing
tag_value (b ∷ tag) = Word (shown (b ∷ tag))

abbrev pub soname_value : Option (List ℕ) → Value
soname_value None = Nothing
soname_value (Some name) = Word (shown name)

-- ---- exports

-- the value of the export to which an old one binds; none if the rule says that something is gone
abbrev pub export_is : Rule → PlainExport → Value
export_is ExportKind e = Word (kind_word e.kind)
export_is ExportSize e = Bytes e.size
export_is other e = Nothing

-- the value of the old export, or the label of one that is gone
abbrev pub export_was : Rule → PlainExport → Value
export_was ExportPresence e = Word (label e)
export_was ExportVersion e = Word (label e)
export_was other e = export_is other e

-- ---- types

-- the place where a type passes the parameter with this number, or the result
abbrev pub place_of : PlainPart → ℕ → PlainView → Place
place_of (Param to) number v = param_place v number
place_of other number v = v.call.outcome

-- the text of a word, and none of other values
abbrev pub text_of : Value → List ℕ
text_of (Word text) = text
text_of value = []
