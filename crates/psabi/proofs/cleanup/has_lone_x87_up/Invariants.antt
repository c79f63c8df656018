-- None so far.
use Rattle.std.proofs.Common.{◌≡◌, false}
use Rattle.std.specs.List.{list_any, range_with_len}
use Rattle.psabi.specs.Cleanup.{is_lone_x87_up}
use Rattle.psabi.proofs.cleanup.has_lone_x87_up.Given as goal

abbrev pub invariant-loop-k : goal.invariant-loop-k
invariant-loop-k l = list_any (is_lone_x87_up l.classes) (range_with_len 0 l.k) ≡ false
