use Rattle.std.proofs.Common.{◌<◌, length}
use Rattle.std.specs.Prelude.{IfSome}
use Rattle.dwarf_tree.proofs.ChildOrder.{IsTaking, children_ahead}
use Rattle.dwarf_tree.proofs.tree.Tree.tagged.Given as goal

abbrev pub invariant-children : goal.invariant-children
invariant-children l = record { taken : IsTaking l.self l.e l.tag l.list.items l.next; inside : IfSome l.next (λ child. child < length l.self.entries) }

abbrev pub decreases-children : goal.decreases-children
decreases-children l = children_ahead (length l.self.entries) l.next
