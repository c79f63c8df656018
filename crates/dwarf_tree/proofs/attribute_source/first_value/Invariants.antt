use Rattle.std.proofs.Common.{◌≡◌, ◌-◌, length}
use Rattle.dwarf_units.specs.Units.{attribute_of}
use Rattle.dwarf_tree.specs.Keeping.{values_of, left_values}
use Rattle.dwarf_tree.proofs.attribute_source.first_value.Given as goal

abbrev pub invariant-pairs : goal.invariant-pairs
invariant-pairs l = attribute_of (left_values l.asked.info.now l.asked.abbrevs.now l.asked.head.now l.kept.offset l.pairs l.at) l.name ≡ attribute_of (values_of l.asked.info.now l.asked.abbrevs.now l.asked.head.now l.kept) l.name

abbrev pub decreases-pairs : goal.decreases-pairs
decreases-pairs l = length l.asked.abbrevs.now - l.pairs
