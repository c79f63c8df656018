use Rattle.std.proofs.Common.{◌≡◌, ◌≤◌, map, drop, length}
use Rattle.abi_base.specs.Limits.{depth_limit}
use Rattle.type_reach.specs.Facts.{above as the_above, rank_in}
use Rattle.type_reach.proofs.facts.above.Given as goal

abbrev pub invariant-down : goal.invariant-down
invariant-down l = record {
  is : l.most ≡ the_above (map rank_in (drop l.k l.facts));
  bound : l.most ≤ depth_limit;
  place : l.k ≤ length l.facts;
}

abbrev pub decreases-down : goal.decreases-down
decreases-down l = l.k
