-- Each node before this one has the marks of its representative.
use Rattle.pair_explorer.proofs.Scoped.{AreEvenBelow}
use Rattle.pair_explorer.proofs.scopes.are_even.Given as goal

abbrev pub invariant-loop-i : goal.invariant-loop-i
invariant-loop-i l = AreEvenBelow l.classes l.flags l.i
