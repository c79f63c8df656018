-- What rows are made from: an exploration over the classes of alike nodes.
use Rattle.std.specs.Prelude.{◌≡◌, ℕ, ◌==◌, ◌&&◌, Bool, List, map, Option, Some, None, slice_get}
use Rattle.std.specs.Str.{bytes_eq}
use Rattle.abi_base.specs.Lists.{firsts}
use Rattle.abi_types.specs.Rules.{rule_place}
use Rattle.type_classes.specs.Classes.{AreCoarsest}
use Rattle.pair_rules.specs.declared.rules.Broken.{Broken}
use Rattle.pair_rules.specs.Steps.{Task}
use Rattle.pair_rules.specs.Paths.{Path}
use Rattle.pair_explorer.specs.declared.visits.Visit.{Visit}
use Rattle.pair_explorer.specs.Scopes.{Scope, AreGraphs}
use Rattle.pair_explorer.specs.ByClass.{IsSound}
use Rattle.pair_explorer.specs.Explorations.{IsExploration}
use Rattle.pair_explorer.specs.Routes.{path_at}
use Rattle.report.specs.declared.row.Row.{Row}
use Rattle.cert_check.specs.Compatible.{Sides, task_of}
use Rattle.pair_compare.specs.reports.Findings.{Finding, detail_at}
use Rattle.pair_compare.specs.reports.Reports.{row_of}

-- two graphs, where nodes are of one class exactly if they are alike
pub record IsCoarse (s : Scope) : Type 0 where
  pub sound : IsSound s
  pub graphs : AreGraphs s
  pub old : AreCoarsest s.old
  pub new : AreCoarsest s.new

-- an exploration over the classes of alike nodes
pub record IsExplored (t : Task) (visits : List Visit) (broken : List (ℕ × Broken)) : Type 0 where
  pub scope : Scope
  pub is : scope.task ≡ t
  pub coarse : IsCoarse scope
  pub exploration : IsExploration scope visits broken

-- ---- findings

abbrev pub found_of : Path → Broken → Option Visit → Finding
found_of path b None = record { path = path; old = 0; new = 0; broken = b }
found_of path b (Some v) = record { path = path; old = v.old; new = v.new; broken = b }

-- the finding of a break at visit number n
unfoldable pub finding_of : List Visit → ℕ × Broken → Finding
finding_of visits p = found_of (path_at visits p.0) p.1 (slice_get visits p.0)

-- two findings have one rule, the same nodes, and one detail
unfoldable pub same_row : Task → Finding → Finding → Bool
same_row t f g =
    rule_place f.broken.rule == rule_place g.broken.rule && f.old == g.old && f.new == g.new
    && bytes_eq (detail_at t f.old f.new f.broken) (detail_at t g.old g.new g.broken)

abbrev pub same_told : Task → List Visit → ℕ × Broken → ℕ × Broken → Bool
same_told t visits p q = same_row t (finding_of visits p) (finding_of visits q)

-- the breaks that get a row: those whose row no earlier break has
abbrev pub told_breaks : Task → List Visit → List (ℕ × Broken) → List (ℕ × Broken)
told_breaks t visits broken = firsts (same_told t visits) broken

-- their findings
abbrev pub findings_of : Task → List Visit → List (ℕ × Broken) → List Finding
findings_of t visits broken = map (finding_of visits) (told_breaks t visits broken)

-- their rows
unfoldable pub type_rows : Sides → List Visit → List (ℕ × Broken) → List Row
type_rows s visits broken = map (row_of s) (findings_of (task_of s) visits broken)
