use Rattle.std.proofs.Common.{◌-◌, ◌^◌}
use Rattle.abi_types.specs.Plain.{plain_label}
use Rattle.suppressions.specs.Weights.{label_letters}
use Rattle.suppressions.proofs.WeightLemmas.{capped_view}
use Rattle.suppressions.proofs.limits.label_letters.Goals as goal

pub loop-label-preserved : goal.loop-label-preserved
loop-label-preserved c =
    capped_view plain_label (label_letters c.args.soname) c.args.labels.now c.loop-label.label-index _ c.loop-label.letters c.max.result c.saturating_add-letters.result (2 ^ 64 - 1) c.loop-label-test.true
    c.loop-label.invariant c.max.ensures c.saturating_add-letters.ensures
