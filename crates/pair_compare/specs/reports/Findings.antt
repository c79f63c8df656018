-- What rows on types report.
use Rattle.std.specs.Prelude.{ℕ, List}
use Rattle.abi_types.specs.Graphs.{view_at}
use Rattle.pair_rules.specs.declared.rules.Broken.{Broken}
use Rattle.pair_rules.specs.Steps.{Task}
use Rattle.pair_rules.specs.Paths.{Path, From, Then}
use Rattle.report.specs.TypeRows.{type_detail}

-- what one row on types reports: a path, the nodes whose entries it names, and a broken rule with its part
pub record Finding : Type 0 where
  pub path : Path
  pub old : ℕ
  pub new : ℕ
  pub broken : Broken

-- the position of the export from which a path begins
abbrev pub export_of : Path → ℕ
export_of (From export) = export
export_of (Then path part) = export_of path

-- the detail of a break of two nodes
unfoldable pub detail_at : Task → ℕ → ℕ → Broken → List ℕ
detail_at t a b broken = type_detail broken.rule (view_at t.old a) (view_at t.new b) broken.part
