use Rattle.std.proofs.Common.{◌≡◌}
use Rattle.elf.specs.symbols.Dynamic.{is_used, is_soname, soname_entry}
use Rattle.elf.proofs.symbols_lemmas.Entries.{find_before_end}
use Rattle.elf.proofs.symbols.dynamic.soname_entry_in.Given as goal

abbrev pub invariant-loop-number : goal.invariant-loop-number
invariant-loop-number l = find_before_end (is_soname l.table) (is_used l.table) l.number l.number-end ≡ soname_entry l.table
