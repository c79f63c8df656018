use Rattle.std.proofs.Common.{ℕ, ◌%◌, ap}
use Rattle.std.specs.Option.{option_copied}
use Rattle.abi_base.specs.GnuVersions.{versym_hidden}
use Rattle.elf.specs.versions.Versions.{index_in}
use Rattle.elf_needs.proofs.Ranges.{map_more}
use Rattle.elf_needs.proofs.symbols.indexes_in.Goals as goal

pub loop-symbol-preserved : goal.loop-symbol-preserved
loop-symbol-preserved c =
    map_more (λ i. index_in (option_copied c.args.table) i % versym_hidden) c.loop-symbol.symbol c.loop-symbol.all.items c.push.new.self.items _
    c.loop-symbol.invariant (ap (λ (n : ℕ). n % versym_hidden) c.index_at.ensures) c.in_ok-push.ensures.items
