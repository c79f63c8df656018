-- The names are those of the nodes so far.
use Rattle.std.proofs.Common.{◌≤◌, length, map, take}
use Rattle.std.specs.Prelude.{sum_by}
use Rattle.abi_types.specs.Plain.{plain_label}
use Rattle.idle_sections.specs.Idle.{all_labels, label_count}
use Rattle.idle_sections.specs.Names.{AreAlike, AreSeen}
use Rattle.idle_sections.proofs.names.names_of.Given as goal

abbrev pub invariant-loop-i : goal.invariant-loop-i
invariant-loop-i l = record {
  seen : AreSeen l.seen (map plain_label l.names.items);
  alike : AreAlike (map plain_label l.names.items) (all_labels (take l.i l.graph));
  few : length l.names.items ≤ sum_by label_count (take l.i l.graph);
}
