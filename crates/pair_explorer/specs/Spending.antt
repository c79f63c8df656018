-- What one step of an exploration takes of its budgets.
use Rattle.std.specs.Prelude.{◌≡◌, ◌<◌, ◌≤◌, ◌⊎◌, ◌+◌, ◌^◌, ℕ, List, length}
use Rattle.abi_base.specs.declared.limit.Limit.{Limit}
use Rattle.abi_base.specs.declared.limit.Limit.TheVariants.{Pairs, PairParts, Breaks}
use Rattle.abi_base.specs.Budgets.{BudgetState}
use Rattle.pair_explorer.specs.declared.visits.Visit.{Visit}
use Rattle.pair_explorer.specs.Adding.{added, expanded}
use Rattle.pair_explorer.specs.Limits.{pairs_allowed, weight_at, break_count_at, HasManyTypes}
use Rattle.pair_explorer.specs.Scopes.{Scope}
use Rattle.pair_explorer.specs.Visits.{seen}

-- this many were taken, and they fit
pub record Takes (before after : BudgetState) (n : ℕ) : Type 0 where
  pub limit_is : after.limit ≡ before.limit
  pub most : after.most ≡ before.most
  pub taken : after.taken ≡ before.taken + n
  pub within : after.taken ≤ after.most

-- as many pairs were taken as there are visits
pub record IsCounted (s : Scope) (visits : List Visit) (pairs : BudgetState) : Type 0 where
  pub limit_is : pairs.limit ≡ Pairs
  pub most : pairs.most ≡ pairs_allowed s
  pub taken : pairs.taken ≡ length visits
  pub within : pairs.taken ≤ pairs.most

-- the budget is one of this limit
pub record IsOf (limit : Limit) (budget : BudgetState) : Type 0 where
  pub limit_is : budget.limit ≡ limit
  pub within : budget.taken ≤ budget.most

-- the number of a visit's type takes more than 32 bits
abbrev pub HasWideNumber : Visit → Type 0
HasWideNumber v = (2 ^ 32 ≤ v.old) ⊎ (2 ^ 32 ≤ v.new)

-- one visit more is one too many
abbrev pub AddPasses : BudgetState → List Visit → Visit → Limit → Type 0
AddPasses pairs visits v l = (l ≡ Pairs) × ((pairs.most < length (added visits v)) ⊎ HasWideNumber v)

-- there are more visits than there may be
abbrev pub VisitsPass : Scope → List Visit → Limit → Type 0
VisitsPass s visits l = (l ≡ Pairs) × ((pairs_allowed s < length visits) ⊎ HasManyTypes s)

-- the parts of one more pair, or the rules that it breaks, are too many
abbrev pub WorkPasses : BudgetState → BudgetState → ℕ → ℕ → Limit → Type 0
WorkPasses parts broken weight breaks l = ((l ≡ PairParts) × (parts.most < parts.taken + weight)) ⊎ ((l ≡ Breaks) × (broken.most < broken.taken + breaks))

-- the visits to which one leads, its parts, or the rules that it breaks are too many
abbrev pub ExpansionPasses : Scope → List Visit → ℕ → Visit → BudgetState → BudgetState → Limit → Type 0
ExpansionPasses s visits n v parts broken l = VisitsPass s (expanded s visits n v) l ⊎ WorkPasses parts broken (weight_at s.task (seen v)) (break_count_at s.task (seen v)) l
