use Rattle.std.proofs.Common.{◌-◌, ◌<◌, ◌≤◌, ◌^◌, length}
use Rattle.dwarf_tree.specs.Keeping.{AreSlots, Extends, Passed}
use Rattle.dwarf_tree.proofs.slots.push_slots.Given as goal

abbrev pub invariant-pairs : goal.invariant-pairs
invariant-pairs l = record {
  lead : AreSlots l.abbrevs l.specs_from l.slots.items (length l.fn.slots.items) (length l.slots.items);
  passed : Passed l.abbrevs l.specs_from l.slots.items (length l.fn.slots.items) l.pairs l.from;
  extended : Extends l.fn.slots.items l.slots.items;
  few : length l.slots.items < 2 ^ 32;
  small : l.from ≤ 65535;
}

abbrev pub decreases-pairs : goal.decreases-pairs
decreases-pairs l = l.last - length l.slots.items
