use Rattle.std.proofs.Common.{◌≡◌, ◌*◌, length, take}
use Rattle.abi_base.specs.Elf.{sym_size}
use Rattle.abi_base.specs.declared.limit.Limit.TheVariants.{ImportNeeds}
use Rattle.abi_base.proofs.lemmas.Filtered.{SpentOn}
use Rattle.elf.specs.symbols.Plain.{plain_symbols}
use Rattle.elf_needs.specs.Plain.{needed}
use Rattle.app_check.specs.Imports.{all_need_bytes, imports_with}
use Rattle.app_check.specs.Plain.{plain_imports}
use Rattle.app_check.proofs.reading.imports_in.Given as goal

abbrev pub invariant-loop-symbol : goal.invariant-loop-symbol
invariant-loop-symbol l = record {
  read : plain_imports l.imports.items ≡ imports_with (needed l.needs) l.indexes (take l.symbol-index (plain_symbols l.symbols));
  spent : SpentOn ImportNeeds (sym_size * length (plain_symbols l.symbols)) (all_need_bytes (plain_imports l.imports.items)) l.budget;
}
