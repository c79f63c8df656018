use Rattle.std.proofs.Common.{◌≡◌, take}
use Rattle.elf.specs.symbols.Plain.{plain_symbols}
use Rattle.app_check.specs.Plain.{plain_imports}
use Rattle.new_needs.specs.Needs.{strong_symbols}
use Rattle.new_needs.specs.Plain.{plain_all}
use Rattle.new_needs.proofs.reading.symbols_among.Given as goal

abbrev pub invariant-loop-import : goal.invariant-loop-import
invariant-loop-import l = plain_all l.needed.items ≡ strong_symbols (plain_symbols l.symbols) (take l.import-index (plain_imports l.imports))
