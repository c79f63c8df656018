use Rattle.std.proofs.Common.{◌≡◌}
use Rattle.elf_needs.specs.Plain.{needed}
use Rattle.app_check.proofs.ImportsRead.{fault_from}
use Rattle.app_check.proofs.reading.import_fault.Given as goal

abbrev pub invariant-loop-symbol : goal.invariant-loop-symbol
invariant-loop-symbol l = fault_from (needed l.needs) l.indexes l.symbols l.symbol-index ≡ fault_from (needed l.needs) l.indexes l.symbols 0
