-- When the rows of a report are right.
use Rattle.std.specs.Prelude.{◌≡◌, ◌<◌, ◌≤◌, ◌⊎◌, ◌++◌, ℕ, false, List, Some, Contains, length, slice_get, map}
use Rattle.abi_types.specs.declared.kind.Way.TheVariants.{Direct}
use Rattle.abi_types.specs.Types.{PlainNode}
use Rattle.abi_types.specs.Graphs.{node_at, view_at}
use Rattle.pair_rules.specs.declared.rules.Broken.{Broken}
use Rattle.pair_rules.specs.BreakOrder.{IsBrokenBefore}
use Rattle.pair_rules.specs.Steps.{Task, Triple, is_marked, breaks_of}
use Rattle.pair_rules.specs.Paths.{Path, PathLeadsTo, IsReachable, IsBefore, IsNotAfter}
use Rattle.type_classes.specs.Alike.{AreAlike}
use Rattle.type_classes.specs.Classes.{IsLeast}
use Rattle.cert_check.specs.Compatible.{Sides, task_of}
use Rattle.report.specs.declared.row.Row.{Row}
use Rattle.report.specs.TypeRows.{part_of, type_is, type_was}
use Rattle.pair_compare.specs.reports.Findings.{Finding, export_of, detail_at}
use Rattle.pair_compare.specs.reports.PathTexts.{label_at, steps_text}
use Rattle.pair_compare.specs.reports.ExportRows.{export_rows}

-- ---- what a row reports

-- the nodes of the triple are alike to a and b
pub record IsAlikeTo (t : Task) (x : Triple) (a b : ℕ) : Type 0 where
  pub old : AreAlike t.old x.old a
  pub new : AreAlike t.new x.new b

-- the path leads to the triple, whose old node is unmarked at its way and whose nodes are alike to a and b
pub record LeadsTo (t : Task) (path : Path) (x : Triple) (a b : ℕ) : Type 0 where
  pub leads : PathLeadsTo t path x
  pub unmarked : is_marked t x.old x.way ≡ false
  pub alike : IsAlikeTo t x a b

-- the path leads to a triple with alike nodes, and the rule and the detail are those of a break of it
pub record IsTrueBreak (t : Task) (f : Finding) : Type 0 where
  pub triple : Triple
  pub leads : LeadsTo t f.path triple f.old f.new
  pub breaks : Contains (breaks_of t triple) f.broken
  pub detail : detail_at t triple.old triple.new f.broken ≡ detail_at t f.old f.new f.broken

-- one of the findings reports the rule and the detail of a break of the triple, at alike nodes
pub record IsFound (t : Task) (findings : List Finding) (x : Triple) (b : Broken) : Type 0 where
  pub finding : Finding
  pub among : Contains findings finding
  pub alike : IsAlikeTo t x finding.old finding.new
  pub rule : finding.broken.rule ≡ b.rule
  pub detail : detail_at t finding.old finding.new finding.broken ≡ detail_at t x.old x.new b

-- i is a node, and no node alike to it has an earlier entry
abbrev pub IsOwn : List PlainNode → ℕ → Type 0
IsOwn nodes i = (i < length nodes) × IsLeast nodes i

-- the path comes before, or the paths are equal and the break comes before
abbrev pub IsFoundBefore : Finding → Finding → Type 0
IsFoundBefore f g = IsBefore f.path g.path ⊎ ((f.path ≡ g.path) × IsBrokenBefore f.broken g.broken)

-- ---- right findings

pub record AreRight (t : Task) (findings : List Finding) : Type 0 where
  -- each reports a true break, at the end of its path
  pub true_breaks : (f : Finding) → Contains findings f → IsTrueBreak t f
  -- each break of each reachable triple whose old node is unmarked at its way has a row
  pub all_breaks : (x : Triple) (b : Broken) → IsReachable t x → is_marked t x.old x.way ≡ false → Contains (breaks_of t x) b → IsFound t findings x b
  -- the path of each is the first that leads to a triple with alike nodes, by whichever way
  pub first_paths : (f : Finding) → Contains findings f → (other : Path) (x : Triple) → LeadsTo t other x f.old f.new → IsNotAfter f.path other
  -- they stand in order of paths, and then of rules and parts
  pub ascending : (m n : ℕ) (f g : Finding) → m < n → slice_get findings m ≡ Some f → slice_get findings n ≡ Some g → IsFoundBefore f g
  -- among the breaks of one pair with one rule and one detail, the one at the least part has the row
  pub least_parts : (f : Finding) → Contains findings f → (b : Broken) → Contains (breaks_of t (record { old = f.old; new = f.new; way = Direct })) b
      → b.rule ≡ f.broken.rule → detail_at t f.old f.new b ≡ detail_at t f.old f.new f.broken → f.broken.part ≤ b.part
  -- the entries of each are the least among alike ones
  pub least_entries : (f : Finding) → Contains findings f → IsOwn t.old f.old × IsOwn t.new f.new

-- ---- right rows

-- The row of a finding: its rule and detail, the label of the export and the steps of the path, the part and the values, and the
-- entries.
unfoldable pub row_of : Sides → Finding → Row
row_of s f = record {
  rule = f.broken.rule;
  export = label_at s.old (export_of f.path);
  path = steps_text s.old f.path;
  detail = detail_at (task_of s) f.old f.new f.broken;
  part = part_of f.broken.rule (view_at s.old.graph f.old) f.broken.part;
  was = type_was f.broken.rule (view_at s.old.graph f.old) f.broken.part;
  is = type_is f.broken.rule (view_at s.old.graph f.old) (view_at s.new.graph f.new) f.broken.part;
  old_entry = (node_at s.old.graph f.old).entry;
  new_entry = (node_at s.new.graph f.new).entry;
}

-- the rows are equal in rule, detail and entries
pub record AreOneRow (a b : Row) : Type 0 where
  pub rule : a.rule ≡ b.rule
  pub detail : a.detail ≡ b.detail
  pub old_entry : a.old_entry ≡ b.old_entry
  pub new_entry : a.new_entry ≡ b.new_entry

-- The rows on types: for each there is a path such that all this holds.
pub record AreRightRows (s : Sides) (rows : List Row) : Type 0 where
  pub findings : List Finding
  pub are : rows ≡ map (row_of s) findings
  pub right : AreRight (task_of s) findings
  -- no two rows are equal in rule, detail and entries
  pub once : (m n : ℕ) (a b : Row) → slice_get rows m ≡ Some a → slice_get rows n ≡ Some b → AreOneRow a b → m ≡ n

-- The rows on sonames and exports, followed by right rows on types.
pub record IsRightReport (s : Sides) (rows : List Row) : Type 0 where
  pub type_rows : List Row
  pub are : rows ≡ export_rows s ++ type_rows
  pub right : AreRightRows s type_rows
