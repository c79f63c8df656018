use Rattle.std.proofs.Common.{◌≡◌, ◌≤◌, map, drop, length}
use Rattle.type_reach.specs.Facts.{total, room_of}
use Rattle.type_reach.proofs.facts.all_rooms.Given as goal

abbrev pub invariant-down : goal.invariant-down
invariant-down l = record { is : l.all ≡ total (map room_of (drop l.k l.params)); place : l.k ≤ length l.params }

abbrev pub decreases-down : goal.decreases-down
decreases-down l = l.k
