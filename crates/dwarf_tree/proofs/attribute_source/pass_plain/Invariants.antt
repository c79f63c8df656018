use Rattle.std.proofs.Common.{◌-◌, ◌≤◌, length}
use Rattle.dwarf_tree.specs.Keeping.{FindSame}
use Rattle.dwarf_tree.proofs.attribute_source.pass_plain.Given as goal

abbrev pub invariant-pairs : goal.invariant-pairs
invariant-pairs l = record {
  same : FindSame l.abbrevs l.unit_end l.name (l.pairs, l.at) (l.first, l.from);
  after : l.first ≤ l.pairs;
}

abbrev pub decreases-pairs : goal.decreases-pairs
decreases-pairs l = length l.abbrevs - l.pairs
