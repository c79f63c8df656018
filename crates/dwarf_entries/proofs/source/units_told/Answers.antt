use Rattle.dwarf_entries.specs.Debug.{plain_sections}
use Rattle.dwarf_entries.specs.UnitContext.{debug}
use Rattle.dwarf_entries.proofs.UnitLemmas.{told_more}
use Rattle.dwarf_entries.proofs.source.units_told.Goals as goal

pub loop-unit-preserved : goal.loop-unit-preserved
loop-unit-preserved c =
    told_more c.loop-unit.units.items c.push.new.self.items (debug (plain_sections c.args.sections.now) c.args.tree.now) c.loop-unit.unit c.told_by_root-said.result c.loop-unit.invariant c.told_by_root-said.ensures
    c.in_ok-push.ensures.items
