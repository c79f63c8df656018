-- Paths of the rules, read as accesses, and another definition of open accesses.
use Rattle.std.specs.Prelude.{◌≡◌, ℕ, Option, Some, IsSome, slice_get}
use Rattle.pair_rules.specs.Steps.{PlainRoot, Task, Triple}
use Rattle.accesses.specs.Accesses.{Moves, Stay, Then, Spot, old_spot, new_spot, GoesOn, IsOpen}
use Rattle.accesses.specs.Landing.{IsOpenAccess, Lands}

-- the nodes of two spots, and the way of the old one
abbrev pub triple_at : Spot → Spot → Triple
triple_at old new = record { old = old.node; new = new.node; way = old.way }

-- an open access leads to the nodes of the triple, in its way
pub record IsAccessed (t : Task) (x : Triple) : Type 0 where
  pub root : PlainRoot
  pub export : ℕ
  pub typed : slice_get t.roots export ≡ Some root
  pub moves : Moves
  pub old : Spot
  pub new : Spot
  pub old_leads : old_spot t root moves ≡ Some old
  pub new_leads : new_spot t root moves ≡ Some new
  pub opened : IsOpen t root moves
  pub is : triple_at old new ≡ x

-- The other definition of an open access: every step before the last exists in the new library too.
pub record GoesOnBeside (t : Task) (old : Spot) (new : Option Spot) : Type 0 where
  pub goes : GoesOn t old new
  pub there : IsSome new

abbrev pub IsOpenBeside : Task → PlainRoot → Moves → Type 0
IsOpenBeside t root Stay = Unit {0}
IsOpenBeside t root (Then moves move) = IsOpenBeside t root moves × ((s : Spot) → old_spot t root moves ≡ Some s → GoesOnBeside t s (new_spot t root moves))

abbrev pub AllLandBeside : Task → Type 0
AllLandBeside t = (root : PlainRoot) (moves : Moves) → IsOpenAccess t root moves → IsOpenBeside t root moves → Lands t root moves
