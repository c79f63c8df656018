-- When an exploration passes a limit.
use Rattle.std.specs.Prelude.{◌≡◌, ◌<◌, ◌≤◌, ◌⊎◌, ◌+◌, ◌-◌, ◌^◌, ℕ, List, length, min, Some, slice_get, if◌then◌else◌}
use Rattle.std.specs.List.{sum_by}
use Rattle.abi_base.specs.declared.limit.Limit.{Limit}
use Rattle.abi_base.specs.declared.limit.Limit.TheVariants as limit
use Rattle.abi_base.specs.Budgets.{allowed}
use Rattle.abi_types.specs.Graphs.{view_at}
use Rattle.pair_rules.specs.Paths.{Path}
use Rattle.pair_rules.specs.Steps.{Task, Triple, is_marked, breaks_of}
use Rattle.pair_rules.specs.Weights.{pair_weight, weight_allowed}
use Rattle.pair_explorer.specs.Scopes.{Scope, LeadsByRep}

-- ---- what is allowed

-- the types of both libraries, as a number of 38 bits
abbrev pub types_of : Scope → ℕ
types_of s = min (length s.task.old + length s.task.new) (2 ^ 38 - 1)

abbrev pub pairs_allowed : Scope → ℕ
pairs_allowed s = allowed limit.Pairs (types_of s)

abbrev pub parts_allowed : Scope → ℕ
parts_allowed s = weight_allowed s.task.old s.task.new

abbrev pub breaks_allowed : Scope → ℕ
breaks_allowed s = allowed limit.Breaks (types_of s)

-- ---- what counts

-- The parts of a triple's types, and the rules that these break. The types are not compared where the old one is marked at its way.
abbrev pub weight_at : Task → Triple → ℕ
weight_at t x = if is_marked t x.old x.way then 0 else pair_weight (view_at t.old x.old) (view_at t.new x.new)

abbrev pub break_count_at : Task → Triple → ℕ
break_count_at t x = if is_marked t x.old x.way then 0 else length (breaks_of t x)

-- reachable triples of representatives, each but once
pub record AreReached (s : Scope) (triples : List Triple) : Type 0 where
  pub reached : (n : ℕ) (x : Triple) → slice_get triples n ≡ Some x → (path : Path) × LeadsByRep s path x
  pub once : (m n : ℕ) (x : Triple) → slice_get triples m ≡ Some x → slice_get triples n ≡ Some x → m ≡ n

-- there are reachable triples that count more than is allowed
pub record CountMore (s : Scope) (count : List Triple → ℕ) (most : ℕ) : Type 0 where
  pub triples : List Triple
  pub are : AreReached s triples
  pub more : most < count triples

-- a library has more types than a number of 32 bits can tell apart
abbrev pub HasManyTypes : Scope → Type 0
HasManyTypes s = (2 ^ 32 < length s.task.old) ⊎ (2 ^ 32 < length s.task.new)

-- The limit is passed: more triples are reachable than there may be, or they have more parts or break more rules.
abbrev pub ExplorationPasses : Scope → Limit → Type 0
ExplorationPasses s limit.Pairs = CountMore s length (pairs_allowed s) ⊎ HasManyTypes s
ExplorationPasses s limit.PairParts = CountMore s (sum_by (weight_at s.task)) (parts_allowed s)
ExplorationPasses s limit.Breaks = CountMore s (sum_by (break_count_at s.task)) (breaks_allowed s)
ExplorationPasses s others = ⊥

-- the triples are within all limits
pub record AreWithin (s : Scope) (triples : List Triple) : Type 0 where
  pub pairs : length triples ≤ pairs_allowed s
  pub parts : sum_by (weight_at s.task) triples ≤ parts_allowed s
  pub breaks : sum_by (break_count_at s.task) triples ≤ breaks_allowed s
