use Rattle.std.proofs.Common.{◌≡◌, ◌-◌, length}
use Rattle.dwarf_text.specs.ranges.RangeLists.{first_start, pair_run}
use Rattle.dwarf_text.proofs.ranges.first.first_in_pairs.Given as goal

abbrev pub invariant-walk : goal.invariant-walk
invariant-walk l =
    first_start (pair_run l.source.entry l.source.bytes.now (l.at, l.base))
    ≡ first_start (pair_run l.source.entry l.source.bytes.now (l.place, l.low))

abbrev pub decreases-walk : goal.decreases-walk
decreases-walk l = length l.source.bytes.now - l.at
