-- The breaks before this one are added.
use Rattle.std.proofs.Common.{◌≡◌, ◌++◌, map, take}
use Rattle.pair_explorer.proofs.exploring.add_breaks.Given as goal

abbrev pub invariant-loop-broken : goal.invariant-loop-broken
invariant-loop-broken l = l.list ≡ l.fn.list ++ map (λ broken. (l.number, broken)) (take l.broken-index l.found)
