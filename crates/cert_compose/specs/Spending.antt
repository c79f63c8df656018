-- What one step of a composition takes of its room.
use Rattle.std.specs.Prelude.{◌≡◌, ◌<◌, ◌≤◌, ◌⊎◌, ◌+◌, ℕ}
use Rattle.abi_base.specs.Budgets.{BudgetState, fresh}
use Rattle.abi_base.specs.declared.limit.Limit.{Limit}
use Rattle.abi_base.specs.declared.limit.Limit.TheVariants.{PairLines, PairParts}
use Rattle.pair_rules.specs.Weights.{weight_units}
use Rattle.cert_compose.specs.Chains.{PlainChain}
use Rattle.cert_compose.specs.Limits.{lines_units}
use Rattle.cert_compose.specs.declared.fitting.Room.{Room}

-- the room for the joins of a chain, of which nothing was taken
abbrev pub room_of : PlainChain → Room
room_of ch = record { looks = fresh PairLines (lines_units ch); parts = fresh PairParts (weight_units ch.first.graph ch.last.graph) }

-- at most this many were taken of a budget
pub record TakesUpTo (before after : BudgetState) (n : ℕ) : Type 0 where
  pub limit_is : after.limit ≡ before.limit
  pub most : after.most ≡ before.most
  pub taken : after.taken ≤ before.taken + n

-- at most this many looks and this many parts were taken
pub record TakesAtMost (before after : Room) (looks parts : ℕ) : Type 0 where
  pub looks_up_to : TakesUpTo before.looks after.looks looks
  pub parts_up_to : TakesUpTo before.parts after.parts parts

-- the limit is that of a budget that has no room for this many
abbrev pub IsShortOf : BudgetState → ℕ → Limit → Type 0
IsShortOf budget n l = (l ≡ budget.limit) × (budget.most < budget.taken + n)

-- the room has none for this many looks, or for this many parts
abbrev pub RoomPasses : Room → ℕ → ℕ → Limit → Type 0
RoomPasses room looks parts l = IsShortOf room.looks looks l ⊎ IsShortOf room.parts parts l
