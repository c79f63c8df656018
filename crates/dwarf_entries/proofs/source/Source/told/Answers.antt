use Rattle.std.proofs.Common.{◌<◌, length, sym, subst, arith}
use Rattle.dwarf_entries.specs.Debug.{PlainDwarf, plain_sections}
use Rattle.dwarf_entries.specs.UnitContext.{debug}
use Rattle.dwarf_entries.proofs.UnitLemmas.{unit_told, told_there}
use Rattle.dwarf_entries.proofs.source.Source.told.Goals as goal

pub index-requires : goal.index-requires
index-requires c =
    let d : PlainDwarf = debug (plain_sections c.self.inside.sections) c.self.inside.links in
    let inside : c.args.e < length d.tree.entries = subst (λ (s : PlainDwarf). c.args.e < length s.tree.entries) (sym c.self.view_is) c.requires in
    let there : c.unit-unit.result < length c.self.inside.units.items =
    unit_told c.self.inside.units.items d c.tree-tree.result.now c.args.e c.unit-unit.result c.self.invariant.units_told c.known.ensures c.tree-tree.ensures inside c.unit-unit.ensures in
    omega arith

pub returns : goal.returns
returns c =
    let d : PlainDwarf = debug (plain_sections c.self.inside.sections) c.self.inside.links in
    let inside : c.args.e < length d.tree.entries = subst (λ (s : PlainDwarf). c.args.e < length s.tree.entries) (sym c.self.view_is) c.requires in
    rw (← c.self.view_is)
    (told_there c.self.inside.units.items d c.tree-tree.result.now c.args.e c.unit-unit.result c.self.invariant.units_told c.known.ensures c.tree-tree.ensures inside c.unit-unit.ensures c.index.result.now c.index.ensures)
