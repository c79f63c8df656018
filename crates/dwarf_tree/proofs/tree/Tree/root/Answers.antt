use Rattle.std.proofs.Common.{◌≡◌, ◌∙◌, ℕ, Some, slice_index, sym, ap, subst, arith}
use Rattle.std.proofs.lemmas.List.{get_or_read}
use Rattle.dwarf_tree.specs.Keeping.{AreRoots}
use Rattle.dwarf_tree.specs.Trees.{PlainTree}
use Rattle.dwarf_tree.proofs.OrderLemmas.{root_inside}
use Rattle.dwarf_tree.proofs.tree.Tree.root.Goals as goal

pub returns-clause-inside : goal.returns-clause-inside
returns-clause-inside c =
    let roots = subst (λ (t : PlainTree). AreRoots t c.self.inside.roots.items) c.self.view_is c.self.invariant.roots_are in
    let here : c.index.result.now ≡ slice_index c.self.inside.roots.items c.args.unit =
    get_or_read c.self.inside.roots.items c.args.unit c.index.result.now (omega (arith, roots.count, c.requires)) c.index.ensures 0 in
    root_inside c.args.self.now c.args.unit c.index.result.now
    (roots.each c.args.unit (omega (arith, roots.count, c.requires)) ∙ ap (λ (n : ℕ). Some n) (sym here))
