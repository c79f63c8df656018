-- Classes are split by the pairs so far, whose keys are lower than those of the others.
use Rattle.std.proofs.Common.{◌-◌, take, length}
use Rattle.type_classes.specs.Splits.{IsSplitBy}
use Rattle.type_classes.proofs.SplitLemmas.{AreParted}
use Rattle.type_classes.proofs.split.split_by_keys.Given as goal

abbrev pub invariant-runs : goal.invariant-runs
invariant-runs l = record {
  split : IsSplitBy l.fn.blocks l.blocks (take l.at l.pairs);
  parted : AreParted l.pairs l.at;
}

abbrev pub decreases-runs : goal.decreases-runs
decreases-runs l = length l.pairs - l.at
