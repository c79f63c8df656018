-- The key of a new triple is put among the known ones.
use Rattle.pair_explorer.proofs.Keyed.{AreKnown-put, is_new-has}
use Rattle.pair_explorer.proofs.visits.put.Goals as goal

pub returns-clause-is_new : goal.returns-clause-is_new
returns-clause-is_new c visits were = is_new-has c.args.known.now c.insert.new.self c.args.visit.now c.in_ok-key.key c.in_ok-is_new.is_new c.in_ok-key.ensures.key c.in_ok-is_new.ensures.added visits were

pub returns-clause-known : goal.returns-clause-known
returns-clause-known c visits were =
    AreKnown-put c.args.known.now c.insert.new.self c.args.visit.now c.in_ok-key.key c.in_ok-is_new.is_new c.in_ok-key.ensures.key c.in_ok-is_new.ensures.added visits were c.in_ok-is_new.ensures.unchanged c.in_ok-is_new.ensures.updates.0
