-- One part after another.
use Rattle.pair_explorer.specs.GraphPairs.{scope_of}
use Rattle.pair_explorer.specs.Visits.{seen}
use Rattle.leading_exports.proofs.Drawn.{along_more, along_none}
use Rattle.leading_exports.proofs.drawing.push_along.Goals as goal

pub parts-init : goal.parts-init
parts-init c = along_none (scope_of c.args.walk.now.ground.now) c.args.walk.now.numbers.now c.args.number (seen c.args.visit.now) c.args.arrows.now

pub parts-preserved : goal.parts-preserved
parts-preserved c =
    along_more (scope_of c.args.walk.now.ground.now) c.args.walk.now.numbers.now c.args.number (seen c.args.visit.now) c.args.arrows.now c.parts.arrows c.push_arrow.new.arrows c.parts.i c.next_triple-next.result
    c.parts.invariant c.next_triple-next.ensures c.in_ok-push_arrow.ensures
