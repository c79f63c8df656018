use Rattle.std.proofs.Common.{◌∙◌, ap}
use Rattle.std.specs.Option.{option_copied}
use Rattle.elf.specs.versions.Names.{name_under}
use Rattle.elf.specs.versions.Versions.{index_in, version_from}
use Rattle.elf.proofs.versions_lemmas.Versioned.{one_more}
use Rattle.elf.proofs.versions.indexes.versions_in.Goals as goal

pub loop-symbol-preserved : goal.loop-symbol-preserved
loop-symbol-preserved c =
    one_more (λ i. version_from (name_under c.args.names.now) (index_in (option_copied c.args.table) i)) c.loop-symbol.symbol c.loop-symbol.all.items c.push.new.self.items c.version_with.result
    c.loop-symbol.invariant (c.version_with.ensures ∙ ap (version_from (name_under c.args.names.now)) c.index_at-index.ensures) c.in_ok-push.ensures.items
