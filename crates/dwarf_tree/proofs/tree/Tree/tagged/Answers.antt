use Rattle.std.proofs.Common.{ℕ, List, Option, subst, sym}
use Rattle.dwarf_tree.proofs.ChildOrder.{IsTaking, taking_start, taking_more}
use Rattle.dwarf_tree.proofs.tree.Tree.tagged.Goals as goal

pub children-init : goal.children-init
children-init c = record {
  taken = subst (λ (list : List ℕ). IsTaking c.args.self.now c.args.e c.args.tag list c.next_child-next.result) (sym c.new-list.ensures.items)
      (taking_start c.args.self.now c.args.e c.args.tag c.next_child-next.result c.next_child-next.ensures.next);
  inside = c.next_child-next.ensures.inside;
}

pub children-preserved : goal.children-preserved
children-preserved c = record {
  taken = taking_more c.args.self.now c.args.e c.args.tag c.in-Some.child c.children.list.items c.take_tagged.new.list.items c.next_child-next-in-Some.result
      (subst (λ (next : Option ℕ). IsTaking c.args.self.now c.args.e c.args.tag c.children.list.items next) c.in-Some.is c.children.invariant.taken)
      c.next_child-next-in-Some.ensures.next c.in_ok-take_tagged.ensures.taken;
  inside = c.next_child-next-in-Some.ensures.inside;
}
