use Rattle.std.proofs.Common.{◌∙◌, ◌<◌, length, List, position, ◌==◌, sym, ap, subst}
use Rattle.std.specs.Prelude.{IsSome}
use Rattle.dwarf_tree.specs.declared.entry_records.AbbreviationLayout.{AbbreviationLayout}
use Rattle.dwarf_tree.specs.declared.entry_records.EntryRecord.{EntryRecord}
use Rattle.dwarf_tree.specs.Keeping.{UnitsRise, decoder, PartialTree, unit_in}
use Rattle.dwarf_tree.specs.Trees.{IsOrdered, root_of}
use Rattle.dwarf_tree.proofs.OrderLemmas.{units_rise, root_there, root_is}
use Rattle.dwarf_tree.proofs.tree_builder.TreeBuilder.root.Goals as goal

pub root_in-requires-clause-rise : goal.root_in-requires-clause-rise
root_in-requires-clause-rise c =
    let units = c.self.inside.units.items in
    let shapes = c.self.inside.shapes.shapes in
    let entries = c.self.inside.entries.items in
    subst (λ (l : List AbbreviationLayout). UnitsRise l c.as_slice-2.result.now) (sym c.as_slice.ensures)
    (subst (λ (l : List EntryRecord). UnitsRise shapes l) (sym c.as_slice-2.ensures.value)
    (units_rise units shapes (decoder c.self.inside.info.now c.self.inside.abbrevs.now units) entries
    (subst (λ (g : PartialTree). IsOrdered g.tree) (sym c.self.view_is) c.requires.ordered)))

pub root_in-requires-clause-there : goal.root_in-requires-clause-there
root_in-requires-clause-there c =
    let units = c.self.inside.units.items in
    let shapes = c.self.inside.shapes.shapes in
    let entries = c.self.inside.entries.items in
    subst (λ (l : List AbbreviationLayout). IsSome (position (λ (stored : EntryRecord). unit_in l stored == c.args.unit) c.as_slice-2.result.now)) (sym c.as_slice.ensures)
    (subst (λ (l : List EntryRecord). IsSome (position (λ (stored : EntryRecord). unit_in shapes stored == c.args.unit) l)) (sym c.as_slice-2.ensures.value)
    (root_there units shapes (decoder c.self.inside.info.now c.self.inside.abbrevs.now units) entries
    (subst (λ (g : PartialTree). IsOrdered g.tree) (sym c.self.view_is) c.requires.ordered) c.args.unit
    (subst (λ (g : PartialTree). c.args.unit < length g.tree.units) (sym c.self.view_is) c.requires.inside)))

pub returns-clause-root : goal.returns-clause-root
returns-clause-root c =
    let units = c.self.inside.units.items in
    let shapes = c.self.inside.shapes.shapes in
    let entries = c.self.inside.entries.items in
    ap (λ (g : PartialTree). root_of g.tree c.args.unit) (sym c.self.view_is)
    ∙ root_is units shapes (decoder c.self.inside.info.now c.self.inside.abbrevs.now units) entries
    (subst (λ (g : PartialTree). IsOrdered g.tree) (sym c.self.view_is) c.requires.ordered) c.args.unit c.root_in.result
    (ap (λ (l : List EntryRecord). position (λ (stored : EntryRecord). unit_in shapes stored == c.args.unit) l) (sym c.as_slice-2.ensures.value)
    ∙ ap (λ (l : List AbbreviationLayout). position (λ (stored : EntryRecord). unit_in l stored == c.args.unit) c.as_slice-2.result.now) (sym c.as_slice.ensures)
    ∙ c.root_in.ensures)
