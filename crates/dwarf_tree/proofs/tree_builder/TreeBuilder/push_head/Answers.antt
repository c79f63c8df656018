use Rattle.std.proofs.Common.{◌∙◌, ap, ◌++◌, ◌∷◌, [], List, get_or}
use Rattle.dwarf_tree.specs.declared.head.Head.{Head}
use Rattle.dwarf_tree.specs.Keeping.{PartialTree, partial_tree, no_shape, now_with}
use Rattle.dwarf_tree.specs.Trees.{TreeEntry}
use Rattle.dwarf_tree.proofs.KeptLemmas.{entries_stay}
use Rattle.dwarf_tree.proofs.tree_builder.TreeBuilder.push_head.Goals as goal

pub returns-clause-pushed : goal.returns-clause-pushed
returns-clause-pushed c =
    let info = c.self.inside.info.now in
    let abbrevs = c.self.inside.abbrevs.now in
    let units = c.self.inside.units.items in
    let shapes = c.self.inside.shapes.shapes in
    let entries = c.self.inside.entries.items in
    let before = partial_tree info abbrevs units shapes entries in
    ap (λ (l : List Head). partial_tree info abbrevs l shapes entries) c.in_ok-push.ensures.items
    ∙ ap (λ (l : List TreeEntry). now_with before (units ++ c.args.head ∷ []) l) (entries_stay info abbrevs units (c.args.head ∷ []) shapes entries
    (λ i d lt. c.self.invariant.units_there (get_or entries i d).shape no_shape (c.self.invariant.shapes_there i d lt)))
    ∙ ap (λ (g : PartialTree). now_with g (g.tree.units ++ c.args.head ∷ []) g.tree.entries) c.self.view_is
