use Rattle.std.proofs.Common.{◌+◌, None, length}
use Rattle.abi_base.specs.declared.limit.Limit.TheVariants.{RangeLists}
use Rattle.abi_base.proofs.lemmas.Budgets.{SpentBefore}
use Rattle.dwarf_entries.specs.Limits.{ranges_cost}
use Rattle.dwarf_entries.proofs.range_bytes.take_for_ranges.Given as goal

abbrev pub invariant-loop-e : goal.invariant-loop-e
invariant-loop-e l = SpentBefore RangeLists (length l.source.sections.rnglists + length l.source.sections.ranges) (λ _. None) (ranges_cost l.source) l.e l.budget
