use Rattle.dwarf_tree.specs.Keeping.{NoneBefore}
use Rattle.dwarf_tree.proofs.slots.slot_for.Given as goal

abbrev pub invariant-loop-place : goal.invariant-loop-place
invariant-loop-place l = NoneBefore l.slots l.fn.shape.slots_from l.place l.name
