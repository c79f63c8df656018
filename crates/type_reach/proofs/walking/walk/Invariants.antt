use Rattle.std.proofs.Common.{◌≡◌, ◌-◌, length}
use Rattle.type_reach.specs.Origins.{ArePassed}
use Rattle.type_reach.proofs.WalkLemmas.{IsWalking}
use Rattle.type_reach.proofs.walking.walk.Given as goal

abbrev pub invariant-walk : goal.invariant-walk
invariant-walk l = record {
  walking : IsWalking l.dwarf.tree l.roots l.met.entries l.number;
  room : l.met.room ≡ length l.dwarf.tree.entries;
  passed : ArePassed l.dwarf.tree l.origins l.met.entries;
}

abbrev pub decreases-walk : goal.decreases-walk
decreases-walk l = length l.dwarf.tree.entries - l.number
