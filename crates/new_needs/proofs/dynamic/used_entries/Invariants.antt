use Rattle.std.proofs.Common.{◌≡◌}
use Rattle.elf.specs.symbols.Dynamic.{is_used, entry_numbers}
use Rattle.new_needs.proofs.UsedEntries.{split_at}
use Rattle.new_needs.proofs.dynamic.used_entries.Given as goal

abbrev pub invariant-loop-number : goal.invariant-loop-number
invariant-loop-number l = split_at (is_used l.table) l.number l.count ≡ entry_numbers l.table
