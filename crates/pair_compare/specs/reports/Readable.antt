-- What must exist so that a row can be made.
use Rattle.std.specs.Prelude.{◌≡◌, ◌<◌, ℕ, List, Some, Contains, length, slice_get}
use Rattle.abi_types.specs.Graphs.{view_at}
use Rattle.pair_rules.specs.declared.rules.Broken.{Broken}
use Rattle.pair_explorer.specs.declared.visits.Visit.{Visit}
use Rattle.pair_explorer.specs.Visits.{AreEarlier}
use Rattle.pair_explorer.specs.Routes.{path_at}
use Rattle.cert_check.specs.Compatible.{Sides}
use Rattle.report.specs.Details.{IsInside}
use Rattle.pair_compare.specs.reports.PathTexts.{IsWalk}

-- the visit of the break exists, and so do its nodes, the part that the rule speaks of, and the path to it
pub record IsReadable (s : Sides) (visits : List Visit) (p : ℕ × Broken) : Type 0 where
  pub visit : Visit
  pub at : slice_get visits p.0 ≡ Some visit
  pub old : visit.old < length s.old.graph
  pub new : visit.new < length s.new.graph
  pub part : IsInside (view_at s.old.graph visit.old) p.1
  pub walk : IsWalk s.old (path_at visits p.0)

-- this holds for each of the breaks, and what led to a visit stands before it
pub record AreReadable (s : Sides) (visits : List Visit) (broken : List (ℕ × Broken)) : Type 0 where
  pub earlier : AreEarlier visits
  pub each : (p : ℕ × Broken) → Contains broken p → IsReadable s visits p
