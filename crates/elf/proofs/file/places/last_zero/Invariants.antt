use Rattle.std.proofs.Common.{◌≤◌, length}
use Rattle.elf.proofs.file.places.last_zero.Given as goal

abbrev pub invariant-back : goal.invariant-back
invariant-back l = l.end ≤ length l.names

abbrev pub decreases-back : goal.decreases-back
decreases-back l = l.end
