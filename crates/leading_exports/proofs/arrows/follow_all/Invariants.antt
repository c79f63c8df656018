-- The arrows from a place on were followed.
use Rattle.leading_exports.proofs.Spreading.{Passing}
use Rattle.leading_exports.proofs.arrows.follow_all.Given as goal

abbrev pub invariant-arrows : goal.invariant-arrows
invariant-arrows l = Passing l.arrows l.initial.marks l.marks l.left l.is_new

abbrev pub decreases-arrows : goal.decreases-arrows
decreases-arrows l = l.left
