use Rattle.std.proofs.Common.{◌≡◌, ◌∙◌, ℕ, ◌<◌, length, sym, ap, subst}
use Rattle.std.specs.Global.{Vec}
use Rattle.std.proofs.lemmas.Result.{IfOk-weaker}
use Rattle.dwarf_tree.specs.Trees.{PlainTree, is_tagged}
use Rattle.dwarf_entries.specs.Debug.{PlainDwarf}
use Rattle.dwarf_entries.proofs.WholeLemmas.{children_inside}
use Rattle.dwarf_entries.proofs.dwarf.Dwarf.tagged.Goals as goal

pub returns-clause-inside : goal.returns-clause-inside
returns-clause-inside c =
    let t = c.tree.result.now in
    let same : c.args.self.now.tree ≡ t = ap (λ (d : PlainDwarf). d.tree) (sym c.self.view_is) ∙ sym c.tree.ensures in
    let inside : c.args.e < length t.entries = subst (λ (x : PlainTree). c.args.e < length x.entries) same c.requires in
    rw same (IfOk-weaker _ _ _ (λ (list : Vec ℕ) is. children_inside t c.args.e (is_tagged t c.args.tag) list.items c.children_stand_one_deeper.ensures inside is) c.tagged.ensures.children)
