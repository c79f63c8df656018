use Rattle.dwarf_tree.proofs.ChildOrder.{child_after, children_left, first_child}
use Rattle.dwarf_tree.proofs.laws.children_follow_one_another.Goals as goal

pub returns-clause-first : goal.returns-clause-first
returns-clause-first c = first_child

pub returns-clause-next : goal.returns-clause-next
returns-clause-next c = child_after

pub returns-clause-left : goal.returns-clause-left
returns-clause-left c = children_left
