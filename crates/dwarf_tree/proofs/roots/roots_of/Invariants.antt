use Rattle.std.proofs.Common.{◌≡◌, length}
use Rattle.dwarf_tree.specs.Keeping.{RootsFirst}
use Rattle.dwarf_tree.proofs.roots.roots_of.Given as goal

abbrev pub invariant-loop-unit : goal.invariant-loop-unit
invariant-loop-unit l = record { count : length l.roots.items ≡ l.unit; each : RootsFirst l.growing.tree l.roots.items }
