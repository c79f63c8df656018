-- Visit by visit.
use Rattle.std.proofs.Common.{◌∙◌, sym}
use Rattle.pair_explorer.specs.GraphPairs.{scope_of}
use Rattle.leading_exports.proofs.Drawn.{upto_more, upto_none}
use Rattle.leading_exports.proofs.drawing.arrows_of.Goals as goal

pub visits-init : goal.visits-init
visits-init g c = c.new-arrows.ensures ∙ sym (upto_none (scope_of c.args.walk.now.ground.now) c.args.walk.now.visits.now c.args.walk.now.numbers.now)

pub visits-preserved : goal.visits-preserved
visits-preserved g c =
    upto_more (scope_of c.args.walk.now.ground.now) c.args.walk.now.visits.now c.args.walk.now.numbers.now c.visits.arrows c.push_from.new.arrows c.visits.number c.visits.invariant c.in_ok-push_from.ensures
