use Rattle.std.proofs.Common.{◌≡◌, ◌≤◌, ◌+◌, length}
use Rattle.std.specs.List.{sum_by}
use Rattle.abi_base.specs.Budgets.{allowed}
use Rattle.abi_base.specs.declared.limit.Limit.TheVariants.{NeededFiles}
use Rattle.elf.specs.symbols.Dynamic.{is_used, entry_numbers}
use Rattle.app_check.specs.Links.{lists_in, needs_in, needed_cost}
use Rattle.app_check.proofs.NeededFiles.{any_before_end, counted_before_end}
use Rattle.app_check.proofs.needed.lists_in.Given as goal

abbrev pub invariant-loop-number : goal.invariant-loop-number
invariant-loop-number l = record {
  told : any_before_end (needs_in l.table l.strings l.library) (is_used l.table) l.number l.number-end ≡ lists_in l.table l.strings l.library;
  limit : l.budget.limit ≡ NeededFiles;
  most : l.budget.most ≡ allowed NeededFiles (length l.table + length l.strings);
  taken : l.budget.taken + counted_before_end (needed_cost l.table l.library) (is_used l.table) l.number l.number-end ≤ sum_by (needed_cost l.table l.library) (entry_numbers l.table);
}
