use Rattle.std.proofs.Common.{◌≡◌, ◌≤◌, length}
use Rattle.dwarf_tree.specs.Keeping.{EndsFrom}
use Rattle.dwarf_tree.proofs.ends.ends_of.Given as goal

abbrev pub invariant-loop-e : goal.invariant-loop-e
invariant-loop-e l = record { count : length l.ends.items ≡ length l.growing.tree.entries; inside : l.e ≤ length l.ends.items; known : EndsFrom l.growing.tree l.ends.items l.e }

abbrev pub decreases-loop-e : goal.decreases-loop-e
decreases-loop-e l = l.e
