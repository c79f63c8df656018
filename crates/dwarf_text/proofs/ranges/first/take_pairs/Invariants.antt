use Rattle.std.proofs.Common.{◌-◌, length}
use Rattle.dwarf_text.specs.ranges.FirstBytes.{pair_bytes}
use Rattle.dwarf_text.proofs.ranges_lemmas.ByteLemmas.{TakenUpTo}
use Rattle.dwarf_text.proofs.ranges.first.take_pairs.Given as goal

abbrev pub invariant-walk : goal.invariant-walk
invariant-walk l = TakenUpTo l.initial.budget l.budget (pair_bytes l.source.entry l.source.bytes.now l.place) (pair_bytes l.source.entry l.source.bytes.now l.at)

abbrev pub decreases-walk : goal.decreases-walk
decreases-walk l = length l.source.bytes.now - l.at
