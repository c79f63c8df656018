use Rattle.std.proofs.Common.{◌≡◌, ◌-◌, ◌^◌, take}
use Rattle.std.specs.Prelude.{min, sum_by}
use Rattle.suppressions.specs.Weights.{section_weight}
use Rattle.suppressions.proofs.weight.weight_of.Given as goal

-- the weight so far
abbrev pub invariant-loop-section : goal.invariant-loop-section
invariant-loop-section l = l.weight ≡ min (sum_by section_weight (take l.section-index l.sections)) (2 ^ 64 - 1)
