-- The roots before this one ascend.
use Rattle.pair_explorer.proofs.Scoped.{AreAscendingBelow}
use Rattle.pair_explorer.proofs.scopes.are_ascending.Given as goal

abbrev pub invariant-loop-k : goal.invariant-loop-k
invariant-loop-k l = AreAscendingBelow l.roots l.k
