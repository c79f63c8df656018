-- What is taken of a budget, and what would pass its limit.
use Rattle.std.specs.Prelude.{◌≡◌, ◌<◌, ◌≤◌, ◌+◌, ℕ, ◌⊎◌}
use Rattle.abi_base.specs.declared.limit.Limit.{Limit}
use Rattle.abi_base.specs.Budgets.{BudgetState}

-- this many more were taken, and the budget keeps its limit
pub record Takes (before after : BudgetState) (count : ℕ) : Type 0 where
  pub limit_is : after.limit ≡ before.limit
  pub most : after.most ≡ before.most
  pub taken : after.taken ≡ before.taken + count
  pub within : after.taken ≤ after.most

-- this many more would pass the limit of the budget
abbrev pub PassesBy : BudgetState → ℕ → Limit → Type 0
PassesBy budget count l = (l ≡ budget.limit) × (budget.most < budget.taken + count)

-- this many of one budget would, or this many of another
abbrev pub PassesEither : BudgetState → ℕ → BudgetState → ℕ → Limit → Type 0
PassesEither one count other many l = PassesBy one count l ⊎ PassesBy other many l
