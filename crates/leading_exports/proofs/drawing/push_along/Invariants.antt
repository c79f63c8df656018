-- The arrows along the parts before this one.
use Rattle.std.proofs.Common.{◌≡◌, ◌++◌}
use Rattle.pair_explorer.specs.GraphPairs.{scope_of}
use Rattle.pair_explorer.specs.Visits.{seen}
use Rattle.leading_exports.specs.Drawing.{arrows_along}
use Rattle.leading_exports.proofs.drawing.push_along.Given as goal

abbrev pub invariant-parts : goal.invariant-parts
invariant-parts l = l.arrows ≡ l.fn.arrows ++ arrows_along (scope_of l.walk.ground.now) l.walk.numbers.now l.number (seen l.visit) l.i
