-- The names so far are pushed.
use Rattle.std.proofs.Common.{◌++◌, ◌+◌, ◌≤◌, length, map, take}
use Rattle.abi_types.specs.Plain.{plain_label}
use Rattle.idle_sections.specs.Names.{AreAlike, AreSeen}
use Rattle.idle_sections.proofs.names.push_names.Given as goal

abbrev pub invariant-loop-label : goal.invariant-loop-label
invariant-loop-label l = record {
  seen : AreSeen l.seen (map plain_label l.names.items);
  alike : AreAlike (map plain_label l.names.items) (map plain_label l.fn.names.items ++ map plain_label (take l.label-index l.labels));
  few : length l.names.items ≤ length l.fn.names.items + l.label-index;
}
