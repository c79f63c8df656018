-- A certificate counts what its exploration did.
use Rattle.std.proofs.Common.{◌≡◌, ◌≤◌, List, map, subst, arith}
use Rattle.std.specs.List.{sum_by}
use Rattle.pair_rules.specs.Steps.{Task}
use Rattle.pair_rules.specs.Weights.{weight_allowed}
use Rattle.pair_explorer.specs.declared.visits.Visit.{Visit}
use Rattle.pair_explorer.specs.Limits.{AreWithin, weight_at}
use Rattle.pair_explorer.specs.Scopes.{Scope}
use Rattle.pair_explorer.specs.Visits.{seen}
use Rattle.cert_text.specs.Certs.{PairLine}
use Rattle.cert_check.specs.Compatible.{Sides, task_of}
use Rattle.cert_check.specs.Fitting.{lines_allowed, lines_weight}

pub fits_from : (s : Sides) (scope : Scope) (visits : List Visit) (lines : List PairLine) → scope.task ≡ task_of s → lines_weight s lines ≡ sum_by (weight_at (task_of s)) (map seen visits) → AreWithin scope (map seen visits) → lines_weight s lines ≤ lines_allowed s
fits_from s scope visits lines is count within =
    let P : Task → Type 0 = λ t. sum_by (weight_at t) (map seen visits) ≤ weight_allowed t.old t.new in
    let fits : P (task_of s) = subst P is within.parts in
    omega (arith, count, fits)
