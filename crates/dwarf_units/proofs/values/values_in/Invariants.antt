use Rattle.std.proofs.Common.{◌≡◌, drop}
use Rattle.dwarf_units.specs.Units.{values_at}
use Rattle.dwarf_units.proofs.ValuesLoop.{values_before}
use Rattle.dwarf_units.specs.Plain.{plain_unit}
use Rattle.dwarf_units.proofs.values.values_in.Given as goal

abbrev pub invariant-loop-spec : goal.invariant-loop-spec
invariant-loop-spec l =
    values_before l.attributes (values_at (plain_unit l.unit) l.entry (drop l.spec-index l.specs) l.place) ≡ values_at (plain_unit l.unit) l.entry l.specs l.at
