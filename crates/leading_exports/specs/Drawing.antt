-- The arrows between visits: a step leads from the triple of one visit to that of the other.
use Rattle.std.specs.Prelude.{ℕ, if◌then◌else◌, List, [], ◌∷◌, length, flat_map, Option, Some, None, slice_get}
use Rattle.std.specs.List.{range_with_len}
use Rattle.abi_types.specs.Graphs.{view_at}
use Rattle.pair_rules.specs.Steps.{Triple, is_marked}
use Rattle.pair_explorer.specs.declared.visits.Visit.{Visit}
use Rattle.pair_explorer.specs.Scopes.{Scope, rep_step}
use Rattle.pair_explorer.specs.Visits.{seen}
use Rattle.leading_exports.specs.Numbers.{number_in}

-- the arrow from one number to another, if there is one
abbrev pub arrow_found : ℕ → Option ℕ → List (ℕ × ℕ)
arrow_found n None = []
arrow_found n (Some m) = (n, m) ∷ []

-- the arrow from a number to the number of a triple
abbrev pub arrow_to : List (Triple × ℕ) → ℕ → Option Triple → List (ℕ × ℕ)
arrow_to entries n None = []
arrow_to entries n (Some x) = arrow_found n (number_in entries x)

-- the arrows along the first parts of the old type of the triple with number n
unfoldable pub arrows_along : Scope → List (Triple × ℕ) → ℕ → Triple → ℕ → List (ℕ × ℕ)
arrows_along s entries n x count = flat_map (λ i. arrow_to entries n (rep_step s x i)) (range_with_len 0 count)

-- the arrows from visit number n; none where its old node is marked at its way
abbrev pub arrows_by : Scope → List (Triple × ℕ) → ℕ → Option Visit → List (ℕ × ℕ)
arrows_by s entries n None = []
arrows_by s entries n (Some v) = if is_marked s.task v.old v.way then [] else arrows_along s entries n (seen v) (length (view_at s.task.old v.old).parts)

unfoldable pub arrows_from : Scope → List Visit → List (Triple × ℕ) → ℕ → List (ℕ × ℕ)
arrows_from s visits entries n = arrows_by s entries n (slice_get visits n)

-- the arrows from the first visits
unfoldable pub arrows_upto : Scope → List Visit → List (Triple × ℕ) → ℕ → List (ℕ × ℕ)
arrows_upto s visits entries count = flat_map (arrows_from s visits entries) (range_with_len 0 count)

-- the arrows from all visits
abbrev pub all_arrows : Scope → List Visit → List (Triple × ℕ) → List (ℕ × ℕ)
all_arrows s visits entries = arrows_upto s visits entries (length visits)
