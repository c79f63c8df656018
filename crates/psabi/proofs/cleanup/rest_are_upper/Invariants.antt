-- All so far.
use Rattle.std.proofs.Common.{◌≡◌, ◌-◌, true}
use Rattle.std.specs.List.{list_all, range_with_len}
use Rattle.psabi.specs.Cleanup.{is_upper_at}
use Rattle.psabi.proofs.cleanup.rest_are_upper.Given as goal

abbrev pub invariant-loop-k : goal.invariant-loop-k
invariant-loop-k l = list_all (is_upper_at l.classes) (range_with_len 1 (l.k - 1)) ≡ true
