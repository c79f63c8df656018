-- Visit by visit.
use Rattle.leading_exports.proofs.Numbered.{AreNumbers-more}
use Rattle.leading_exports.proofs.numbers.numbers_of.Goals as goal

pub visits-preserved : goal.visits-preserved
visits-preserved c =
    AreNumbers-more c.args.visits.now c.visits.numbers c.insert.new.self c.triple.result c.visits.number c.visit-visit.result c.visit-visit.ensures c.triple.ensures c.visits.invariant c.in_ok-insert.ensures.ok
