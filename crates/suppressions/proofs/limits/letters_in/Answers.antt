use Rattle.std.proofs.Common.{◌-◌, ◌^◌}
use Rattle.std.specs.Option.{option_copied}
use Rattle.abi_types.specs.Plain.{plain_exports}
use Rattle.suppressions.proofs.WeightLemmas.{letters_are}
use Rattle.suppressions.proofs.limits.letters_in.Goals as goal

pub returns : goal.returns
returns c =
    letters_are c.args.old.now c.length_of-soname.result c.export_letters.result c.graph_letters.result c.saturating_add.result (2 ^ 64 - 1) (plain_exports c.exports.result.now) c.graph.result.now
    (option_copied c.soname.result) c.length_of-soname.ensures c.soname.ensures c.exports.ensures c.graph.ensures c.export_letters.ensures c.graph_letters.ensures c.saturating_add.ensures
