use Rattle.std.proofs.Common.{◌≡◌, ◌∙◌, ◌<◌, ◌^◌, ◌%◌, ◌/◌, ap, sym, subst, length, get_or, arith}
use Rattle.std.specs.Prelude.{◌==◌}
use Rattle.std.proofs.lemmas.List.{length-map}
use Rattle.dwarf_tree.specs.declared.entry_records.AbbreviationLayout.{AbbreviationLayout}
use Rattle.dwarf_tree.specs.declared.entry_records.EntryRecord.{EntryRecord}
use Rattle.dwarf_tree.specs.Keeping.{decoder, bit_of, plain_stored, plain_entries}
use Rattle.dwarf_tree.specs.Trees.{PlainTree, own_of}
use Rattle.dwarf_tree.proofs.NameLemmas.{asked_not}
use Rattle.dwarf_tree.proofs.tree.Tree.may_have.Goals as goal

pub returns : goal.returns
returns c none =
    let info = c.self.inside.info.now in
    let abbrevs = c.self.inside.abbrevs.now in
    let units = c.self.inside.units.items in
    let shapes = c.self.inside.shapes.items in
    let entries = c.self.inside.entries.items in
    let decode = decoder info abbrevs units in
    let stored = c.index-stored.result.now in
    let shape = c.index.result.now in
    let there : c.args.e < length (plain_entries shapes decode entries) = subst (λ (t : PlainTree). c.args.e < length t.entries) (sym c.self.view_is) c.requires in
    let is : shape ≡ get_or shapes (get_or entries c.args.e stored).shape shape = c.index.ensures ∙ ap (λ (x : EntryRecord). get_or shapes x.shape shape) (rw c.index-place.ensures at c.index-stored.ensures) in
    sym (asked_not info abbrevs units shapes c.self.inside.slots.items entries c.args.e c.args.name stored shape (omega (arith, there, length-map entries (plain_stored shapes decode))) c.self.invariant.inside
    (ap (λ (s : AbbreviationLayout). s.names / 2 ^ bit_of c.args.name % 2 == 1) (sym is) ∙ sym c.may_have.ensures ∙ none)
    ∙ ap (λ (t : PlainTree). own_of t c.args.e c.args.name) c.self.view_is)
