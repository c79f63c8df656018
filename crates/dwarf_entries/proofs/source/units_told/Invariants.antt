use Rattle.dwarf_entries.specs.Debug.{plain_sections}
use Rattle.dwarf_entries.specs.UnitContext.{debug}
use Rattle.dwarf_entries.proofs.UnitLemmas.{TellUnits}
use Rattle.dwarf_entries.proofs.source.units_told.Given as goal

abbrev pub invariant-loop-unit : goal.invariant-loop-unit
invariant-loop-unit l = TellUnits l.units.items (debug (plain_sections l.sections) l.tree) l.unit
