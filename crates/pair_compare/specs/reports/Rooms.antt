-- What the rows of a report take of their budget.
use Rattle.std.specs.Prelude.{◌≡◌, ◌<◌, ◌≤◌, ◌⊎◌, ◌++◌, ℕ, List}
use Rattle.std.specs.List.{sum_by}
use Rattle.abi_base.specs.declared.limit.Limit.{Limit}
use Rattle.abi_base.specs.declared.limit.Limit.TheVariants.{Report}
use Rattle.abi_base.specs.Budgets.{BudgetState, allowed}
use Rattle.sha2.specs.Sha256.{sha256}
use Rattle.pair_rules.specs.declared.rules.Broken.{Broken}
use Rattle.pair_explorer.specs.declared.visits.Visit.{Visit}
use Rattle.report.specs.declared.row.Row.{Row}
use Rattle.cert_check.specs.Compatible.{Sides}
use Rattle.pair_compare.specs.Limits.{break_size, report_units, row_size}
use Rattle.pair_compare.specs.reports.TypeFindings.{type_rows}

-- what these items count was taken of a budget of this size
pub record IsTaken {A : Type 0} (most : ℕ) (cost : A → ℕ) (items : List A) (room : BudgetState) : Type 0 where
  pub limit_is : room.limit ≡ Report
  pub most_is : room.most ≡ most
  pub taken : room.taken ≡ sum_by cost items
  pub within : room.taken ≤ room.most

-- these rows are too many
abbrev pub RowsPass : ℕ → List Row → Limit → Type 0
RowsPass most rows l = (l ≡ Report) × (most < sum_by row_size rows)

-- the details of these breaks are too long for two files with the digests
pub record AreTooLong (s : Sides) (visits : List Visit) (broken : List (ℕ × Broken)) : Type 0 where
  pub old : List ℕ
  pub new : List ℕ
  pub old_is : s.old.digest ≡ sha256 old
  pub new_is : s.new.digest ≡ sha256 new
  pub more : allowed Report (report_units old new) < sum_by (break_size s visits) broken

abbrev pub DetailsPass : Sides → List Visit → List (ℕ × Broken) → Limit → Type 0
DetailsPass s visits broken l = (l ≡ Report) × AreTooLong s visits broken

-- the rows on types behind others are too many, or the details of which they are made are too long
abbrev pub TypeRowsPass : Sides → ℕ → List Row → List Visit → List (ℕ × Broken) → Limit → Type 0
TypeRowsPass s most rows visits broken l = DetailsPass s visits broken l ⊎ RowsPass most (rows ++ type_rows s visits broken) l
