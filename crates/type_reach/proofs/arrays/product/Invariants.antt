use Rattle.std.proofs.Common.{◌≡◌, ◌≤◌, map, drop, length}
use Rattle.type_reach.specs.Facts.{product, subrange_count}
use Rattle.type_reach.proofs.arrays.product.Given as goal

abbrev pub invariant-down : goal.invariant-down
invariant-down l = record {
  is : l.all ≡ product (map (subrange_count l.dwarf.tree) (drop l.k l.subranges));
  place : l.k ≤ length l.subranges;
}

abbrev pub decreases-down : goal.decreases-down
decreases-down l = l.k
