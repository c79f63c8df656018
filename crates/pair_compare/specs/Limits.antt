-- When a comparison of two libraries passes a limit.
use Rattle.std.specs.Prelude.{◌≡◌, ◌<◌, ◌+◌, ◌-◌, ◌^◌, ◌⊎◌, ℕ, List, length, min}
use Rattle.std.specs.List.{sum_by}
use Rattle.sha2.specs.Sha256.{sha256}
use Rattle.abi_base.specs.declared.limit.Limit.{Limit}
use Rattle.abi_base.specs.declared.limit.Limit.TheVariants as limit
use Rattle.abi_base.specs.Budgets.{BudgetState, allowed, fresh}
use Rattle.pair_rules.specs.declared.rules.Broken.{Broken}
use Rattle.pair_rules.specs.Steps.{Task}
use Rattle.pair_explorer.specs.declared.visits.Visit.{Visit}
use Rattle.pair_explorer.specs.Limits.{ExplorationPasses}
use Rattle.pair_explorer.specs.Scopes.{Scope}
use Rattle.report.specs.declared.row.Row.{Row}
use Rattle.report.specs.Values.{text_of}
use Rattle.cert_check.specs.Compatible.{Sides, task_of}
use Rattle.pair_compare.specs.reports.Findings.{Finding, detail_at}
use Rattle.pair_compare.specs.reports.Reports.{IsRightReport}
use Rattle.pair_compare.specs.reports.TypeFindings.{IsCoarse, IsExplored, finding_of}

-- ---- a report

-- how many bytes the rows of a report on two files may have
abbrev pub report_units : List ℕ → List ℕ → ℕ
report_units old new = min (length old + length new) (2 ^ 38 - 1)

-- the bytes of a row: those of its texts, and 128 besides, as a number of 64 bits
abbrev pub row_size : Row → ℕ
row_size r =
    min (length r.export + length r.path + (length r.detail + length r.part) + (length (text_of r.was) + length (text_of r.is)) + 128) (2 ^ 64 - 1)

-- the bytes of what distinguishes a finding from others: its detail, and 128 besides
abbrev pub detail_size : Task → Finding → ℕ
detail_size t f = min (length (detail_at t f.old f.new f.broken) + 128) (2 ^ 64 - 1)

abbrev pub break_size : Sides → List Visit → ℕ × Broken → ℕ
break_size s visits p = detail_size (task_of s) (finding_of visits p)

-- the budget for the rows of two files with these digests
pub record IsRoom (s : Sides) (room : BudgetState) : Type 0 where
  pub old : List ℕ
  pub new : List ℕ
  pub old_is : s.old.digest ≡ sha256 old
  pub new_is : s.new.digest ≡ sha256 new
  pub fresh_is : room ≡ fresh limit.Report (report_units old new)

-- the right report has more bytes than this
pub record RowsCountMore (s : Sides) (most : ℕ) : Type 0 where
  pub rows : List Row
  pub right : IsRightReport s rows
  pub more : most < sum_by row_size rows

-- the details of all broken rules have more bytes than this
pub record DetailsCountMore (s : Sides) (most : ℕ) : Type 0 where
  pub visits : List Visit
  pub broken : List (ℕ × Broken)
  pub explored : IsExplored (task_of s) visits broken
  pub more : most < sum_by (break_size s visits) broken

-- two files with these digests allow fewer bytes than the report has, or than the details of which it chooses
pub record ReportPasses (s : Sides) : Type 0 where
  pub old : List ℕ
  pub new : List ℕ
  pub old_is : s.old.digest ≡ sha256 old
  pub new_is : s.new.digest ≡ sha256 new
  pub more : RowsCountMore s (allowed limit.Report (report_units old new)) ⊎ DetailsCountMore s (allowed limit.Report (report_units old new))

-- ---- a comparison

-- an exploration of the types over the classes of alike ones passes the limit
pub record TypesPass (s : Sides) (l : Limit) : Type 0 where
  pub scope : Scope
  pub is : scope.task ≡ task_of s
  pub coarse : IsCoarse scope
  pub passed : ExplorationPasses scope l

-- The limit is passed where the types are explored, or where something is made of the comparison, which passes these limits.
abbrev pub ViewPasses : (Sides → Limit → Type 0) → Sides → Limit → Type 0
ViewPasses made s l = TypesPass s l ⊎ made s l

-- the limit is that on the bytes of a report, and the report passes it
abbrev pub VerdictPasses : Sides → Limit → Type 0
VerdictPasses s l = (l ≡ limit.Report) × ReportPasses s

-- The limit that two libraries pass where they are compared: one on pairs of their types, or the one on the report.
abbrev pub ComparisonPasses : Sides → Limit → Type 0
ComparisonPasses = ViewPasses VerdictPasses
