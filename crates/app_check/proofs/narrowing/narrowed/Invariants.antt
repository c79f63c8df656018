use Rattle.std.proofs.Common.{◌≡◌, take}
use Rattle.app_check.specs.Used.{narrowed}
use Rattle.app_check.proofs.narrowing.narrowed.Given as goal

abbrev pub invariant-loop-place : goal.invariant-loop-place
invariant-loop-place l = l.exports ≡ narrowed (take l.place l.dropped) (take l.place l.used)
