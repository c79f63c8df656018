-- What the parts so far count.
use Rattle.std.proofs.Common.{◌≡◌, ◌-◌, ◌^◌, min, take}
use Rattle.std.specs.List.{sum_by}
use Rattle.pair_rules.specs.Weights.{part_weight}
use Rattle.pair_rules.proofs.weights.weight_of.Given as goal

abbrev pub invariant-parts : goal.invariant-parts
invariant-parts g l = l.weight ≡ min (sum_by part_weight (take l.k l.view.parts)) (2 ^ 64 - 1)
