use Rattle.std.proofs.Common.{sym, subst, arith}
use Rattle.dwarf_tree.specs.Trees.{PlainTree, IsOrdered}
use Rattle.dwarf_tree.proofs.tree.read_tree.Goals as goal

pub finished-requires : goal.finished-requires
finished-requires c =
    subst (λ (t : PlainTree). IsOrdered t) (sym c.in-Ok.ensures.read)
    (c.a_section_is_in_order.ensures.ordered c.args.sections.now.info.now c.args.sections.now.abbrev.now (omega (arith, c.args.sections.now.info_small)) c.in-Ok.ensures.judged)
