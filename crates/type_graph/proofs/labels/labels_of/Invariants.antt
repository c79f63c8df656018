use Rattle.std.proofs.Common.{◌≡◌, ◌<◌, ◌++◌, map, length}
use Rattle.std.specs.Prelude.{IfSome}
use Rattle.abi_types.specs.Plain.{plain_label}
use Rattle.type_reach.specs.Flat.{labels_of}
use Rattle.type_reach.specs.TypeLaws.{IsShallow}
use Rattle.type_graph.specs.Counts.{label_letters}
use Rattle.type_graph.specs.Spending.{Takes}
use Rattle.type_graph.proofs.LabelLemmas.{left}
use Rattle.type_graph.proofs.labels.labels_of.Given as goal

abbrev pub invariant-passed : goal.invariant-passed
invariant-passed l = record {
  is : map plain_label l.labels.items ++ labels_of l.dwarf l.next ≡ labels_of l.dwarf l.fn.ty;
  shallow : IsShallow l.dwarf l.next;
  inside : IfSome l.next (λ e. e < length l.dwarf.tree.entries);
  letters : Takes l.fn.letters l.letters (label_letters (map plain_label l.labels.items));
}

abbrev pub decreases-passed : goal.decreases-passed
decreases-passed l = left l.dwarf l.next
