use Rattle.std.proofs.Common.{◌≡◌, ◌≤◌, Bool, Some}
use Rattle.dwarf_units.specs.Plain.{plain_unit}
use Rattle.dwarf_units.specs.Units.{entries_left}
use Rattle.dwarf_units.proofs.reader.pass_ends.Given as goal

abbrev pub invariant-ends : goal.invariant-ends
invariant-ends l = record {
  few : l.lists ≤ l.at;
  same : (met : Bool) → entries_left (plain_unit l.unit) (l.from, Some l.nested) met ≡ entries_left (plain_unit l.unit) (l.at, Some l.lists) met;
}

abbrev pub decreases-ends : goal.decreases-ends
decreases-ends l = l.lists
