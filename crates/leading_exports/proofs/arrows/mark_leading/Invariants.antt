-- Passes leave fewer numbers unmarked, and take what they are to take.
use Rattle.std.proofs.Common.{◌≡◌, length, not, count_by}
use Rattle.leading_exports.specs.Arrows.{TakesPasses}
use Rattle.leading_exports.proofs.Spreading.{Passed}
use Rattle.leading_exports.proofs.arrows.mark_leading.Given as goal

abbrev pub invariant-passes : goal.invariant-passes
invariant-passes l = Passed l.arrows l.initial.marks l.marks × TakesPasses (length l.arrows) l.initial.effort.left l.effort.left × (l.effort.limit ≡ l.initial.effort.limit)

abbrev pub decreases-passes : goal.decreases-passes
decreases-passes l = count_by not l.marks
