use Rattle.std.proofs.Common.{◌≡◌, map}
use Rattle.std.specs.Prelude.{nat_eq}
use Rattle.std.specs.HashSet.{contains}
use Rattle.std.specs.List.{range_with_len}
use Rattle.app_check.proofs.using.marked.Given as goal

abbrev pub invariant-loop-place : goal.invariant-loop-place
invariant-loop-place l = l.marked.items ≡ map (contains nat_eq l.found) (range_with_len 0 l.place-counter)
