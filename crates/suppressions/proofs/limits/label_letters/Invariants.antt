use Rattle.std.proofs.Common.{◌≡◌, ◌-◌, ◌^◌, map, take}
use Rattle.std.specs.Prelude.{min, sum_by}
use Rattle.abi_types.specs.Plain.{plain_label}
use Rattle.suppressions.specs.Weights.{label_letters}
use Rattle.suppressions.proofs.limits.label_letters.Given as goal

-- the letters of the names so far
abbrev pub invariant-loop-label : goal.invariant-loop-label
invariant-loop-label l = l.letters ≡ min (sum_by (label_letters l.soname) (take l.label-index (map plain_label l.labels))) (2 ^ 64 - 1)
