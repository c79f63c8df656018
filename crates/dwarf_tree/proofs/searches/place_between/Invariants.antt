use Rattle.std.proofs.Common.{◌-◌, ◌≤◌, length}
use Rattle.dwarf_tree.specs.Keeping.{StandsBetween}
use Rattle.dwarf_tree.proofs.searches.place_between.Given as goal

abbrev pub invariant-halves : goal.invariant-halves
invariant-halves l = record {
  inside : l.high ≤ length l.entries;
  between : StandsBetween l.entries l.offset l.low l.high;
}

abbrev pub decreases-halves : goal.decreases-halves
decreases-halves l = l.high - l.low
