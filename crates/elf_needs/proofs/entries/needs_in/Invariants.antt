use Rattle.std.proofs.Common.{◌+◌, length}
use Rattle.abi_base.proofs.lemmas.Budgets.{SpentBefore}
use Rattle.abi_base.specs.declared.limit.Limit.TheVariants.{VersionNeeds}
use Rattle.elf_needs.specs.Needs.{need_cost, need_fault}
use Rattle.elf_needs.proofs.ReadNeeds.{ReadBefore}
use Rattle.elf_needs.proofs.entries.needs_in.Given as goal

abbrev pub invariant-loop-number : goal.invariant-loop-number
invariant-loop-number l =
    ReadBefore l.table l.strings l.count l.number l.at l.by_index
    × SpentBefore VersionNeeds (length l.table + length l.strings) (need_fault l.table l.strings l.count) (need_cost l.table l.strings) l.number l.budget
