use Rattle.std.proofs.Common.{◌≡◌, map}
use Rattle.std.specs.List.{range_with_len}
use Rattle.std.specs.Option.{option_copied, option_map}
use Rattle.elf.specs.versions.Names.{name_under}
use Rattle.elf.specs.versions.Plain.{plain_version}
use Rattle.elf.specs.versions.Versions.{index_in, version_from}
use Rattle.elf.proofs.versions.indexes.versions_in.Given as goal

abbrev pub invariant-loop-symbol : goal.invariant-loop-symbol
invariant-loop-symbol l = map (option_map plain_version) l.all.items ≡ map (λ i. version_from (name_under l.names) (index_in (option_copied l.table) i)) (range_with_len 0 l.symbol)
