-- The arrows from the visits before this one.
use Rattle.std.proofs.Common.{◌≡◌}
use Rattle.pair_explorer.specs.GraphPairs.{scope_of}
use Rattle.leading_exports.specs.Drawing.{arrows_upto}
use Rattle.leading_exports.proofs.drawing.arrows_of.Given as goal

abbrev pub invariant-visits : goal.invariant-visits
invariant-visits g l = l.arrows ≡ arrows_upto (scope_of l.walk.ground.now) l.walk.visits.now l.walk.numbers.now l.number
