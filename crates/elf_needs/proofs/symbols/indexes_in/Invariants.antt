use Rattle.std.proofs.Common.{◌≡◌, ◌%◌, map}
use Rattle.std.specs.List.{range_with_len}
use Rattle.std.specs.Option.{option_copied}
use Rattle.abi_base.specs.GnuVersions.{versym_hidden}
use Rattle.elf.specs.versions.Versions.{index_in}
use Rattle.elf_needs.proofs.symbols.indexes_in.Given as goal

abbrev pub invariant-loop-symbol : goal.invariant-loop-symbol
invariant-loop-symbol l = l.all.items ≡ map (λ i. index_in (option_copied l.table) i % versym_hidden) (range_with_len 0 l.symbol)
