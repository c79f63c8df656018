use Rattle.std.proofs.Common.{◌-◌, length}
use Rattle.dwarf_text.specs.ranges.FirstBytes.{list_bytes}
use Rattle.dwarf_text.proofs.ranges_lemmas.ByteLemmas.{TakenUpTo}
use Rattle.dwarf_text.proofs.ranges.first.take_list.Given as goal

abbrev pub invariant-walk : goal.invariant-walk
invariant-walk l = TakenUpTo l.initial.budget l.budget (list_bytes l.source.addr.now l.source.addr_base l.source.entry l.source.bytes.now l.place) (list_bytes l.source.addr.now l.source.addr_base l.source.entry l.source.bytes.now l.at)

abbrev pub decreases-walk : goal.decreases-walk
decreases-walk l = length l.source.bytes.now - l.at
