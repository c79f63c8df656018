use Rattle.std.proofs.Common.{◌-◌}
use Rattle.dwarf_units.specs.Plain.{plain_unit}
use Rattle.dwarf_units.proofs.EntriesLeft.{IsReading}
use Rattle.dwarf_units.proofs.reader.any_in.Given as goal

abbrev pub invariant-closing : goal.invariant-closing
invariant-closing l = IsReading (plain_unit l.unit) (l.at, l.lists) l.met (l.fn.from, l.fn.inside)

abbrev pub decreases-closing : goal.decreases-closing
decreases-closing l = l.unit.end - l.at
