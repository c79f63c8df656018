use Rattle.std.proofs.Common.{take}
use Rattle.app_check.proofs.Places.{Holds}
use Rattle.app_check.proofs.using.found_places.Given as goal

abbrev pub invariant-loop-place : goal.invariant-loop-place
invariant-loop-place l = Holds l.found (take l.place-index l.places)
