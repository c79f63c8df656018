use Rattle.std.proofs.Common.{◌≡◌, ◌∙◌, ◌<◌, ap, sym, subst, length, Ok, Err, Result}
use Rattle.std.specs.Result.{OnErr, OnOk}
use Rattle.std.specs.Prelude.{◌++◌, ◌∷◌, [], List}
use Rattle.dwarf_tree.specs.declared.entry_records.AbbreviationLayout.{AbbreviationLayout}
use Rattle.dwarf_tree.specs.declared.entry_records.EntryRecord.{EntryRecord}
use Rattle.dwarf_tree.specs.Keeping.{PartialTree, LieInside, partial_tree, names_in, now_with, pair_names, decoder, kept_of}
use Rattle.dwarf_tree.specs.Trees.{TreeEntry, placed}
use Rattle.dwarf_tree.proofs.KeptLemmas.{lie_stored, tree_stored}
use Rattle.dwarf_tree.proofs.SlotLemmas.{lie_extended}
use Rattle.dwarf_tree.proofs.tree_builder.TreeBuilder.push_entry.Goals as goal

on_ok : {A E P Q : Type 0} (r : Result A E) → (P → Q) → OnOk r P → OnOk r Q
on_ok (Ok x) f p = f p
on_ok (Err e) f p = p

either_way : {A E P Q S G : Type 0} (r : Result A E) → OnOk r P → OnErr r Q → OnErr r S → (P → G) → (Q → S → G) → G
either_way (Ok x) p q s ok err = ok p
either_way (Err e) p q s ok err = err q s

pub invariant_of-self : goal.invariant_of-self
invariant_of-self c =
    let info = c.self.inside.info.now in
    let abbrevs = c.self.inside.abbrevs.now in
    let units = c.self.inside.units.items in
    let shapes = c.self.inside.shapes.shapes in
    let entries = c.self.inside.entries.items in
    let e = c.args.entry.now in
    let grown = c.store.new.shapes in
    let stored = c.store.new.entries.items in
    let inside : c.args.unit < length units = subst (λ (g : PartialTree). c.args.unit < length g.tree.units) (sym c.self.view_is) c.requires.inside in
    let names : pair_names abbrevs e.specs_from ≡ names_in e.attributes = ap (λ (g : PartialTree). pair_names g.abbrevs e.specs_from) c.self.view_is ∙ c.requires.names in
    let extended : LieInside info abbrevs units shapes grown.slots entries =
    lie_extended info abbrevs units shapes c.self.inside.shapes.slots grown.slots entries c.store.ensures.extended c.self.invariant in
    either_way c.store.result c.store.ensures.stored c.store.ensures.same_shapes c.store.ensures.same_entries
    (λ is. lie_stored abbrevs c.args.unit e shapes grown entries stored is info units extended inside names)
    (λ same_shapes same_entries.
    subst (λ (l : List AbbreviationLayout). LieInside info abbrevs units l grown.slots stored) (sym same_shapes)
    (subst (λ (l : List EntryRecord). LieInside info abbrevs units shapes grown.slots l) (sym same_entries) extended))

pub returns-clause-pushed : goal.returns-clause-pushed
returns-clause-pushed c =
    let info = c.self.inside.info.now in
    let abbrevs = c.self.inside.abbrevs.now in
    let units = c.self.inside.units.items in
    let shapes = c.self.inside.shapes.shapes in
    let entries = c.self.inside.entries.items in
    let before = partial_tree info abbrevs units shapes entries in
    let e = c.args.entry.now in
    let unit = c.args.unit in
    let values : decoder info abbrevs units (kept_of 0 unit e) ≡ e.attributes =
    ap (λ (g : PartialTree). decoder g.info g.abbrevs g.tree.units (kept_of 0 unit e)) c.self.view_is ∙ c.requires.values in
    on_ok c.store.result
    (λ is.
    ap (λ (l : List TreeEntry). now_with before units l)
    (tree_stored abbrevs unit e shapes c.store.new.shapes entries c.store.new.entries.items is info units c.self.inside.shapes.slots c.self.invariant values)
    ∙ ap (λ (g : PartialTree). now_with g g.tree.units (g.tree.entries ++ placed unit e ∷ [])) c.self.view_is)
    c.store.ensures.stored
