use Rattle.std.proofs.Common.{◌-◌}
use Rattle.dwarf_tree.specs.Keeping.{LooksFrom}
use Rattle.dwarf_tree.proofs.tree.Tree.next_place.Given as goal

abbrev pub invariant-below : goal.invariant-below
invariant-below l = LooksFrom l.self l.e l.fn.after l.next

abbrev pub decreases-below : goal.decreases-below
decreases-below l = l.end - l.next
