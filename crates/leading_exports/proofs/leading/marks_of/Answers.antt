-- Visit by visit.
use Rattle.pair_explorer.specs.GraphPairs.{scope_of}
use Rattle.leading_exports.proofs.Reached.{marks_more}
use Rattle.leading_exports.proofs.leading.marks_of.Goals as goal

pub visits-preserved : goal.visits-preserved
visits-preserved c =
    marks_more (scope_of c.args.walk.now.ground.now) c.args.old c.args.new c.args.walk.now.visits.now c.visits.marks.items c.push.new.self.items c.visits.number c.visit-visit.result c.is_of_pair.result
    c.visit-visit.ensures c.visits.invariant c.is_of_pair.ensures c.in_ok-push.ensures.items
