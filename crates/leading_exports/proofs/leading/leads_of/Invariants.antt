-- The exports of the roots before this one.
use Rattle.std.proofs.Common.{◌≡◌, take}
use Rattle.pair_explorer.specs.GraphPairs.{scope_of}
use Rattle.leading_exports.specs.Leading.{is_lead}
use Rattle.leading_exports.proofs.Reached.{picked}
use Rattle.leading_exports.proofs.leading.leads_of.Given as goal

abbrev pub invariant-roots : goal.invariant-roots
invariant-roots l = l.exports.items ≡ picked (is_lead (scope_of l.walk.ground.now) l.walk.numbers.now l.marks) (take l.k l.walk.ground.now.roots.now)
