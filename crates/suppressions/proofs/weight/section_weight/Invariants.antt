use Rattle.std.proofs.Common.{◌≡◌, ◌-◌, ◌^◌, take}
use Rattle.std.specs.Prelude.{min, sum_by}
use Rattle.suppressions.specs.Weights.{property_weight}
use Rattle.suppressions.proofs.weight.section_weight.Given as goal

-- the weight so far
abbrev pub invariant-loop-property : goal.invariant-loop-property
invariant-loop-property l = l.weight ≡ min (sum_by property_weight (take l.property-index l.section.properties)) (2 ^ 64 - 1)
