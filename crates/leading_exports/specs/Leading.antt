-- The exports that lead to two types.
use Rattle.std.specs.Prelude.{◌≡◌, ◌<◌, ◌+◌, ◌-◌, ◌*◌, ◌^◌, ◌↔◌, ◌==◌, ◌&&◌, min, ℕ, Bool, false, not, List, Option, Some, None, Contains, slice_get, slice_index_or}
use Rattle.abi_types.specs.declared.kind.Way.{Way}
use Rattle.pair_rules.specs.Paths.{Path, From, Then, root_triple}
use Rattle.pair_rules.specs.Steps.{PlainRoot, Triple, is_marked}
use Rattle.pair_explorer.specs.declared.visits.Visit.{Visit}
use Rattle.pair_explorer.specs.Scopes.{Scope, rep, LeadsByRep}
use Rattle.leading_exports.specs.Numbers.{number_in}

-- the export from which a path begins
abbrev pub start_of : Path → ℕ
start_of (From export) = export
start_of (Then path part) = start_of path

-- A path over representatives leads from the export to the two types, by a way at which the old one is unmarked.
pub record LeadsToPair (s : Scope) (a b export : ℕ) : Type 0 where
  pub path : Path
  pub way : Way
  pub from : start_of path ≡ export
  pub leads : LeadsByRep s path (record { old = a; new = b; way = way })
  pub unmarked : is_marked s.task a way ≡ false

-- These are exactly the exports that lead to the two types, in ascending order.
pub record AreLeading (s : Scope) (a b : ℕ) (exports : List ℕ) : Type 0 where
  pub ascend : (i j k l : ℕ) → i < j → slice_get exports i ≡ Some k → slice_get exports j ≡ Some l → k < l
  pub exact : (export : ℕ) → Contains exports export ↔ LeadsToPair s a b export

-- The least effort for this many visits, arrows and roots: one for each visit and each arrow, and 16 for each root, of which no more
-- is asked than a budget holds.
abbrev pub least_effort : ℕ → ℕ → ℕ → ℕ
least_effort visits arrows roots = visits + arrows + min (roots * 16) (2 ^ 64 - 1)

-- ---- by marks

-- the visit is of the two types, and its old node is unmarked at its way
abbrev pub is_of_pair : Scope → ℕ → ℕ → Visit → Bool
is_of_pair s a b v = v.old == a && v.new == b && not (is_marked s.task v.old v.way)

-- the number, if there is one, is marked
abbrev pub is_marked_at : List Bool → Option ℕ → Bool
is_marked_at marks None = false
is_marked_at marks (Some n) = slice_index_or marks n false

-- the number of the triple to which a root leads is marked
unfoldable pub is_lead : Scope → List (Triple × ℕ) → List Bool → PlainRoot → Bool
is_lead s entries marks root = is_marked_at marks (number_in entries (rep s (root_triple root)))
