-- The details of rows on exports, and the parts of those on types: the old and the new state.
use Rattle.std.specs.Prelude.{◌≡◌, ◌<◌, ℕ, ◌+◌, true, length, List, [], ◌∷◌, ◌++◌, Option, Some, None, unwrap_or, slice_index_or, codes, decimal}
use Rattle.std.specs.List.{concat}
use Rattle.abi_types.specs.declared.place.Place.{Place}
use Rattle.abi_types.specs.declared.place.Place.TheVariants as place
use Rattle.abi_types.specs.declared.rule.Rule.{Rule}
use Rattle.abi_types.specs.declared.rule.Rule.TheVariants.{ExportPresence, ExportVersion, ExportKind, ExportSize, ExportType}
use Rattle.abi_types.specs.Exports.{PlainExport}
use Rattle.abi_types.specs.Kinds.{kind_word}
use Rattle.abi_types.specs.Shown.{shown}
use Rattle.abi_types.specs.Types.{PlainPart, Param, PlainView}
use Rattle.pair_rules.specs.declared.rules.Broken.{Broken}
use Rattle.pair_rules.specs.TypeRules.{matched, speaks_of_parts}
use Rattle.report.specs.Places.{place_text}
use Rattle.report.specs.Steps.{part_name}
use Rattle.report.specs.Words.{changed}

-- a name, or `none` if it is missing
abbrev pub shown_or_none : List ℕ → List ℕ
shown_or_none [] = codes "none"
shown_or_none (b ∷ name) = shown (b ∷ name)

abbrev pub shown_soname : Option (List ℕ) → List ℕ
shown_soname None = codes "none"
shown_soname (Some name) = shown name

-- ---- exports

-- the detail for two sonames
abbrev pub soname_detail : Option (List ℕ) → Option (List ℕ) → List ℕ
soname_detail old new = changed (codes "SONAME") (shown_soname old) (shown_soname new)

-- the detail for an old export and the new one to which it binds; the rules for exports that are gone do not look at the new one
abbrev pub export_detail : Rule → PlainExport → PlainExport → List ℕ
export_detail ExportPresence old new = codes "gone"
export_detail ExportVersion old new = codes "version gone"
export_detail ExportKind old new = changed (codes "kind") (kind_word old.kind) (kind_word new.kind)
export_detail ExportSize old new = changed (codes "object size") (decimal old.size) (decimal new.size)
export_detail ExportType old new = codes "type gone"
export_detail other old new = []

-- ---- types. `v` is the old type, `w` the new one, and i the position of the old part that the rule speaks of

-- a property of the old part, and the same property of its match
abbrev pub part_change : List ℕ → List ℕ → (PlainView → ℕ → ℕ) → PlainView → PlainView → ℕ → List ℕ
part_change sort said_of said v w i =
    concat (sort ∷ part_name v i ∷ said_of ∷ decimal (said v i) ∷ codes ", now " ∷ decimal (unwrap_or (matched said v w i) 0) ∷ [])

-- the place of the parameter with this number
abbrev pub param_place : PlainView → ℕ → Place
param_place v number = slice_index_or v.call.params number place.Nothing

-- the places of a parameter or of the result
abbrev pub places_change : PlainPart → ℕ → PlainView → PlainView → List ℕ
places_change (Param to) number v w =
    concat (codes "param " ∷ decimal (number + 1) ∷ codes " in " ∷ place_text (param_place v number) ∷ codes ", now " ∷ place_text (param_place w number) ∷ [])
places_change other number v w = changed (codes "result in") (place_text v.call.outcome) (place_text w.call.outcome)

-- the rule speaks of a part that the old type has, or of no part at all
abbrev pub IsInside : PlainView → Broken → Type 0
IsInside v b = speaks_of_parts b.rule ≡ true → b.part < length v.parts
