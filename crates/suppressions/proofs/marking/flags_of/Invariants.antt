use Rattle.std.proofs.Common.{◌≤◌, ◌-◌, take, length}
use Rattle.suppressions.specs.Flags.{AreFlags}
use Rattle.suppressions.specs.Names.{chosen}
use Rattle.suppressions.proofs.marking.flags_of.Given as goal

-- the flags are those of the blocks so far
abbrev pub invariant-parts : goal.invariant-parts
invariant-parts l = (l.end ≤ length l.sections) × AreFlags (chosen l.asking (take l.end l.sections)) l.old l.flags

abbrev pub decreases-parts : goal.decreases-parts
decreases-parts l = length l.sections - l.end
