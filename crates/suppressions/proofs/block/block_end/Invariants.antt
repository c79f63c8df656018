use Rattle.std.proofs.Common.{◌≤◌, ◌-◌, length}
use Rattle.suppressions.proofs.block.block_end.Given as goal

-- the end lies between the start and the end of the list
abbrev pub invariant-sections : goal.invariant-sections
invariant-sections l = (l.fn.start ≤ l.end) × (l.end ≤ length l.sections)

abbrev pub decreases-sections : goal.decreases-sections
decreases-sections l = length l.sections - l.end
