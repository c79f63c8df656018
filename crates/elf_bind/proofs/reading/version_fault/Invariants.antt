use Rattle.std.proofs.Common.{◌≡◌}
use Rattle.elf_bind.proofs.Among.{fault_from}
use Rattle.elf_bind.proofs.reading.version_fault.Given as goal

abbrev pub invariant-loop-symbol : goal.invariant-loop-symbol
invariant-loop-symbol l = fault_from l.versions l.symbols l.symbol-index ≡ fault_from l.versions l.symbols 0
