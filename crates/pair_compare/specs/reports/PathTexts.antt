-- The texts of a path: the label of its export, and its steps.
use Rattle.std.specs.Prelude.{◌<◌, ◌==◌, ℕ, if◌then◌else◌, List, [], ◌∷◌, ◌++◌, length, slice_get, option_and_then, unwrap_or, codes}
use Rattle.std.specs.Option.{option_map_or}
use Rattle.abi_types.specs.Exports.{PlainExport}
use Rattle.abi_types.specs.Graphs.{node_of, part_at, to_of, view_at}
use Rattle.abi_types.specs.Libraries.{PlainLibrary}
use Rattle.abi_types.specs.Shown.{label}
use Rattle.abi_types.specs.Types.{PlainView}
use Rattle.pair_rules.specs.Paths.{Path, From, Then}
use Rattle.report.specs.Steps.{path_text}

-- the label of the export at a position
unfoldable pub label_at : PlainLibrary → ℕ → List ℕ
label_at l export = option_map_or label (slice_get l.exports export) []

-- the node of the type of the export at a position; void where there is none
unfoldable pub type_of : PlainLibrary → ℕ → ℕ
type_of l export = unwrap_or (option_and_then (λ (e : PlainExport). node_of l.graph e.entry) (slice_get l.exports export)) 0

-- the node that a part of a node names; void where it names none
abbrev pub next_from : PlainLibrary → ℕ → ℕ → ℕ
next_from l node part = unwrap_or (to_of (part_at (view_at l.graph node) part)) 0

-- the node at which a path ends: from the type of its export it follows each part in turn
unfoldable pub end_of : PlainLibrary → Path → ℕ
end_of l (From export) = type_of l export
end_of l (Then path part) = next_from l (end_of l path) part

-- the steps of a path, each a type and the position of a part of it
unfoldable pub steps_of : PlainLibrary → Path → List (PlainView × ℕ)
steps_of l (From export) = []
steps_of l (Then path part) = steps_of l path ++ (view_at l.graph (end_of l path), part) ∷ []

-- the text of the steps of a path
abbrev pub steps_text : PlainLibrary → Path → List ℕ
steps_text l path = path_text (steps_of l path)

-- the separator in front of a step that has this many before it
abbrev pub between : ℕ → List ℕ
between before = if before == 0 then [] else codes " / "

-- all nodes and parts along the path exist
abbrev pub IsWalk : PlainLibrary → Path → Type 0
IsWalk l (From export) = type_of l export < length l.graph
IsWalk l (Then path part) = IsWalk l path × (part < length (view_at l.graph (end_of l path)).parts) × (end_of l (Then path part) < length l.graph)
