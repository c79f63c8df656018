use Rattle.std.proofs.Common.{◌+◌, length}
use Rattle.abi_base.proofs.lemmas.Budgets.{SpentBefore}
use Rattle.abi_base.specs.declared.limit.Limit.TheVariants.{NeededFiles}
use Rattle.new_needs.specs.NeededFiles.{needed_cost, needed_name_fault, plain_names}
use Rattle.new_needs.proofs.UsedEntries.{NamesBefore}
use Rattle.new_needs.proofs.dynamic.names_in.Given as goal

abbrev pub invariant-loop-number : goal.invariant-loop-number
invariant-loop-number l = record {
  names : NamesBefore l.table l.strings l.count l.number (plain_names l.names.items);
  spent : SpentBefore NeededFiles (length l.table + length l.strings) (needed_name_fault l.table l.strings) (needed_cost l.table l.strings) l.number l.budget;
}
