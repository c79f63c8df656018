use Rattle.std.proofs.Common.{◌-◌, length}
use Rattle.dwarf_tree.proofs.Below.{AreBelow}
use Rattle.dwarf_tree.proofs.ends.end_in.Given as goal

abbrev pub invariant-below : goal.invariant-below
invariant-below l = AreBelow l.growing.tree l.e l.end

abbrev pub decreases-below : goal.decreases-below
decreases-below l = length l.ends - l.end
