-- The output of `abi exports` for a library: a line for each export, with the places of a function's arguments and result.
use Rattle.std.specs.Prelude.{ℕ, ◌≡◌, ◌<◌, ◌+◌, ◌==◌, length, if◌then◌else◌, List, [], ◌∷◌, ◌++◌, flat_map, Option, Some, None, codes, decimal}
use Rattle.std.specs.List.{concat}
use Rattle.abi_base.specs.Budgets.{BudgetState}
use Rattle.abi_base.specs.declared.limit.Limit.{Limit}
use Rattle.abi_types.specs.declared.place.Place.{Place}
use Rattle.abi_types.specs.declared.place.CallShape.{CallShape}
use Rattle.abi_types.specs.Exports.{PlainExport}
use Rattle.abi_types.specs.Forms.{is_function}
use Rattle.abi_types.specs.Graphs.{node_of, view_at}
use Rattle.abi_types.specs.Kinds.{kind_word}
use Rattle.abi_types.specs.Libraries.{PlainLibrary}
use Rattle.abi_types.specs.Shown.{label}
use Rattle.abi_types.specs.Types.{PlainNode, PlainView}
use Rattle.report.specs.Places.{place_text}
use Rattle.report.specs.Render.{newline}
use Rattle.report.specs.Words.{kind_of_type}

-- a comma and a place
unfoldable pub place_behind : Place → List ℕ
place_behind place = codes "," ++ place_text place

-- the places joined by commas, or a dash where there are none
abbrev pub places_text : List Place → List ℕ
places_text [] = codes "-"
places_text (place ∷ places) = place_text place ++ flat_map place_behind places

-- where a call passes its arguments and its result
abbrev pub call_text : CallShape → List ℕ
call_text call = concat (codes " params " ∷ places_text call.params ∷ codes " result " ∷ place_text call.outcome ∷ [])

-- the description of a type: the places of a function, and the kind of any other type
unfoldable pub type_text : PlainView → List ℕ
type_text v = if is_function v.kind then call_text v.call else codes " is " ++ kind_of_type v.kind

abbrev pub node_text : List PlainNode → Option ℕ → List ℕ
node_text nodes None = codes " untyped"
node_text nodes (Some i) = type_text (view_at nodes i)

-- the description of an entry's type, where 0 means that there is none
unfoldable pub entry_text : List PlainNode → ℕ → List ℕ
entry_text nodes entry = if entry == 0 then codes " untyped" else node_text nodes (node_of nodes entry)

-- the line of an export: the number of its symbol, its label, its kind, its size, and its type
unfoldable pub export_line : List PlainNode → PlainExport → List ℕ
export_line nodes e =
    concat (decimal e.symbol ∷ codes " " ∷ label e ∷ codes " " ∷ kind_word e.kind ∷ codes " " ∷ decimal e.size ∷ entry_text nodes e.entry ∷ newline ∷ [])

-- the lines of all exports, in the order of their symbols
unfoldable pub exports_text : PlainLibrary → List ℕ
exports_text library = flat_map (export_line library.graph) library.exports

-- a text has more bytes than are left of a budget
abbrev pub LinesPass : List ℕ → BudgetState → Limit → Type 0
LinesPass text budget l = (l ≡ budget.limit) × (budget.most < budget.taken + length text)
