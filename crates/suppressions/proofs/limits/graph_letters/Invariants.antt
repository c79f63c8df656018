use Rattle.std.proofs.Common.{◌≡◌, ◌-◌, ◌^◌, take}
use Rattle.std.specs.Prelude.{min, sum_by}
use Rattle.suppressions.specs.Weights.{node_letters}
use Rattle.suppressions.proofs.limits.graph_letters.Given as goal

-- the letters of the types so far
abbrev pub invariant-loop-i : goal.invariant-loop-i
invariant-loop-i l = l.letters ≡ min (sum_by (node_letters l.soname) (take l.i l.graph)) (2 ^ 64 - 1)
