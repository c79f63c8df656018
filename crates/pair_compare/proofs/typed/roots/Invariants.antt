-- The roots of the exports before this one.
use Rattle.std.proofs.Common.{◌≡◌}
use Rattle.std.specs.List.{filter_map, range_with_len}
use Rattle.cert_check.specs.Compatible.{typed_root}
use Rattle.pair_compare.specs.BoundPair.{sides_of}
use Rattle.pair_compare.proofs.typed.roots.Given as goal

abbrev pub invariant-exports : goal.invariant-exports
invariant-exports l = l.roots.items ≡ filter_map (typed_root (sides_of l.pair)) (range_with_len 0 l.k)
