use Rattle.elf_needs.proofs.Counting.{SpentEntries}
use Rattle.elf_needs.proofs.KeptEntries.{KeptBefore}
use Rattle.elf_needs.proofs.entries.keep_each.Given as goal

abbrev pub invariant-loop-entry : goal.invariant-loop-entry
invariant-loop-entry l =
    KeptBefore l.table l.strings l.need.number l.entry l.at l.initial.by_index l.by_index
    × SpentEntries l.table l.strings l.need.number l.entry l.initial.budget l.budget
