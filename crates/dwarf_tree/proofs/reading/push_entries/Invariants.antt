use Rattle.std.proofs.Common.{length}
use Rattle.dwarf_units.specs.Plain.{plain_unit}
use Rattle.dwarf_tree.proofs.ReadFrom.{IsReading}
use Rattle.dwarf_units.proofs.lemmas.Limits.{AttributesTaken}
use Rattle.dwarf_tree.proofs.reading.push_entries.Given as goal

abbrev pub invariant-list : goal.invariant-list
invariant-list l = IsReading l.fn.growing l.growing l.number (plain_unit l.unit) l.left × AttributesTaken (plain_unit l.unit) l.left l.budget

abbrev pub decreases-list : goal.decreases-list
decreases-list l = length l.left.items
