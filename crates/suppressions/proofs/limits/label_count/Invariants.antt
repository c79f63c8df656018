use Rattle.std.proofs.Common.{◌≡◌, ◌-◌, ◌^◌, length, take}
use Rattle.std.specs.Prelude.{min, sum_by}
use Rattle.abi_types.specs.Types.{PlainNode}
use Rattle.suppressions.proofs.limits.label_count.Given as goal

-- the names of the types so far
abbrev pub invariant-loop-i : goal.invariant-loop-i
invariant-loop-i l = l.count ≡ min (sum_by (λ (n : PlainNode). length n.labels) (take l.i l.graph)) (2 ^ 64 - 1)
