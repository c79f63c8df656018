-- The marks of the visits before this one.
use Rattle.std.proofs.Common.{◌≡◌, map, take}
use Rattle.pair_explorer.specs.GraphPairs.{scope_of}
use Rattle.leading_exports.specs.Leading.{is_of_pair}
use Rattle.leading_exports.proofs.leading.marks_of.Given as goal

abbrev pub invariant-visits : goal.invariant-visits
invariant-visits l = l.marks.items ≡ map (is_of_pair (scope_of l.walk.ground.now) l.old l.new) (take l.number l.walk.visits.now)
