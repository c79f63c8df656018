use Rattle.std.proofs.Common.{◌-◌, length}
use Rattle.dwarf_tree.specs.Keeping.{PassSame}
use Rattle.dwarf_tree.proofs.slots.pass_unasked.Given as goal

abbrev pub invariant-pairs : goal.invariant-pairs
invariant-pairs l = PassSame l.abbrevs l.pairs l.from

abbrev pub decreases-pairs : goal.decreases-pairs
decreases-pairs l = length l.abbrevs - l.pairs
