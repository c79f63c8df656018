-- Paths from the types of exports to triples.
use Rattle.std.specs.Prelude.{◌≡◌, ◌<◌, ◌⊎◌, ℕ, Some, slice_get}
use Rattle.abi_types.specs.declared.kind.Way.TheVariants.{Direct}
use Rattle.pair_rules.specs.Steps.{PlainRoot, Task, Triple, step}

-- an export to begin with, then steps by positions of old parts, the last one outermost
pub data Path : Type 0 where
  From : (export : ℕ) → Path
  Then : (path : Path) (part : ℕ) → Path

-- the triple of a root, which is reached by value
abbrev pub root_triple : PlainRoot → Triple
root_triple root = record { old = root.old; new = root.new; way = Direct }

-- the path leads to the triple
abbrev pub PathLeadsTo : Task → Path → Triple → Type 0
PathLeadsTo t (From export) x = (k : ℕ) × (root : PlainRoot) × (slice_get t.roots k ≡ Some root) × (root.export ≡ export) × (x ≡ root_triple root)
PathLeadsTo t (Then path part) y = (x : Triple) × PathLeadsTo t path x × (step t x part ≡ Some y)

-- some path leads to the triple
abbrev pub IsReachable : Task → Triple → Type 0
IsReachable t x = (path : Path) × PathLeadsTo t path x

-- The path is shorter; or it is as long, and begins at an earlier export, or at the same one and goes by earlier parts, where the
-- first step counts most.
abbrev pub IsBefore : Path → Path → Type 0
IsBefore (From j) (From k) = j < k
IsBefore (From j) (Then q k) = Unit {0}
IsBefore (Then p j) (From k) = ⊥
IsBefore (Then p j) (Then q k) = IsBefore p q ⊎ ((p ≡ q) × (j < k))

abbrev pub IsNotAfter : Path → Path → Type 0
IsNotAfter p q = IsBefore p q ⊎ (p ≡ q)
