use Rattle.std.proofs.Common.{◌∙◌, sym, ap, subst, List, position, ◌==◌}
use Rattle.dwarf_tree.specs.declared.entry_records.EntryRecord.{EntryRecord}
use Rattle.dwarf_tree.specs.Trees.{PlainTree, entry_of}
use Rattle.dwarf_tree.specs.Keeping.{Ascend, decoder}
use Rattle.dwarf_tree.proofs.OrderLemmas.{ascends}
use Rattle.dwarf_tree.proofs.Places.{found_kept}
use Rattle.dwarf_tree.proofs.tree.Tree.place_of_offset.Goals as goal

pub returns-clause-found : goal.returns-clause-found
returns-clause-found c =
    c.place_near.ensures
    ∙ ap (λ (entries : List EntryRecord). position (λ stored. stored.offset == c.args.offset) entries) c.as_slice.ensures.value
    ∙ sym (found_kept c.self.inside.units.items c.self.inside.shapes.items (decoder c.self.inside.info.now c.self.inside.abbrevs.now c.self.inside.units.items) c.self.inside.entries.items c.args.offset)
    ∙ ap (λ (t : PlainTree). entry_of t c.args.offset) c.self.view_is

pub place_near-requires : goal.place_near-requires
place_near-requires c =
    subst (λ (entries : List EntryRecord). Ascend entries) (sym c.as_slice.ensures.value)
    (ascends c.self.inside.units.items c.self.inside.shapes.items (decoder c.self.inside.info.now c.self.inside.abbrevs.now c.self.inside.units.items) c.self.inside.entries.items c.self.invariant.ordered)
