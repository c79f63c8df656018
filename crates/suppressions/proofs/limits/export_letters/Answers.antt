use Rattle.std.proofs.Common.{◌-◌, ◌^◌}
use Rattle.abi_types.specs.Plain.{plain_export}
use Rattle.suppressions.specs.Weights.{export_letters}
use Rattle.suppressions.proofs.WeightLemmas.{capped_view}
use Rattle.suppressions.proofs.limits.export_letters.Goals as goal

pub loop-export-preserved : goal.loop-export-preserved
loop-export-preserved c =
    capped_view plain_export (export_letters c.args.soname) c.args.exports.now c.loop-export.export-index _ c.loop-export.letters c.letters_of.result c.saturating_add-letters.result (2 ^ 64 - 1) c.loop-export-test.true
    c.loop-export.invariant c.letters_of.ensures c.saturating_add-letters.ensures
