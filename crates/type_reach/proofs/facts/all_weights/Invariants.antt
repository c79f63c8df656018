use Rattle.std.proofs.Common.{◌≡◌, ◌≤◌, map, drop, length}
use Rattle.type_reach.specs.Facts.{total, weight_in}
use Rattle.type_reach.proofs.facts.all_weights.Given as goal

abbrev pub invariant-down : goal.invariant-down
invariant-down l = record { is : l.all ≡ total (map weight_in (drop l.k l.facts)); place : l.k ≤ length l.facts }

abbrev pub decreases-down : goal.decreases-down
decreases-down l = l.k
