-- The roots before this one are nodes.
use Rattle.pair_explorer.proofs.Scoped.{AreInsideBelow}
use Rattle.pair_explorer.proofs.scopes.are_inside.Given as goal

abbrev pub invariant-loop-k : goal.invariant-loop-k
invariant-loop-k l = AreInsideBelow l.old l.new l.roots l.k
