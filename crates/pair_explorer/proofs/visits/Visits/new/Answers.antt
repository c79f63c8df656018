-- Nothing is known, and nothing was visited.
use Rattle.pair_explorer.proofs.Keyed.{AreKnown-none}
use Rattle.pair_explorer.proofs.visits.Visits.new.Goals as goal

pub invariant_of-result : goal.invariant_of-result
invariant_of-result c = AreKnown-none c.new-2.result c.new.result.items c.new-2.ensures.empty c.new.ensures.items
