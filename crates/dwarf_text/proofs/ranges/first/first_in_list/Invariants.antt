use Rattle.std.proofs.Common.{◌≡◌, ◌-◌, length}
use Rattle.dwarf_text.specs.ranges.RangeLists.{first_start, list_run}
use Rattle.dwarf_text.proofs.ranges.first.first_in_list.Given as goal

abbrev pub invariant-walk : goal.invariant-walk
invariant-walk l =
    first_start (list_run l.source.addr.now l.source.addr_base l.source.entry l.source.bytes.now (l.at, l.base))
    ≡ first_start (list_run l.source.addr.now l.source.addr_base l.source.entry l.source.bytes.now (l.place, l.low))

abbrev pub decreases-walk : goal.decreases-walk
decreases-walk l = length l.source.bytes.now - l.at
