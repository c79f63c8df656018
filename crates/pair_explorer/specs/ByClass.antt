-- What holds over representatives, and over all nodes.
use Rattle.std.specs.Prelude.{◌≡◌, ◌<◌, ◌⊎◌, ℕ, Bool, false, List, Some, Contains, slice_get}
use Rattle.type_classes.specs.Classes.{AreSound}
use Rattle.pair_rules.specs.declared.rules.Broken.{Broken}
use Rattle.pair_rules.specs.BreakOrder.{IsBrokenBefore}
use Rattle.pair_rules.specs.Steps.{Triple, is_marked, breaks_of}
use Rattle.pair_rules.specs.Paths.{Path, PathLeadsTo, IsNotAfter}
use Rattle.pair_explorer.specs.declared.visits.Visit.{Visit}
use Rattle.pair_explorer.specs.Scopes.{Scope, IsScope, rep}
use Rattle.pair_explorer.specs.Visits.{seen, has}

-- what a caller guarantees, and what the types of classes guarantee
pub record IsSound (s : Scope) : Type 0 where
  pub scope : IsScope s
  pub old : AreSound s.old
  pub new : AreSound s.new

-- a triple of nodes that a break reports
pub record IsToldBy (s : Scope) (visits : List Visit) (n : ℕ) (broken : Broken) (path : Path) : Type 0 where
  pub triple : Triple
  -- the path leads to it
  pub leads : PathLeadsTo s.task path triple
  -- and no path that comes before it leads to a triple of the same classes and the same way
  pub first : (other : Path) (x : Triple) → PathLeadsTo s.task other x → rep s x ≡ rep s triple → IsNotAfter path other
  pub unmarked : is_marked s.task triple.old triple.way ≡ false
  pub breaks : Contains (breaks_of s.task triple) broken
  -- its representatives are those of the visit
  pub visit : Visit
  pub at : slice_get visits n ≡ Some visit
  pub is : rep s triple ≡ seen visit

-- the break of a triple of nodes is reported at the visit of its representatives
pub record IsTold (s : Scope) (visits : List Visit) (breaks : List (ℕ × Broken)) (x : Triple) (broken : Broken) : Type 0 where
  pub number : ℕ
  pub visit : Visit
  pub at : slice_get visits number ≡ Some visit
  pub is : rep s x ≡ seen visit
  pub told : Contains breaks (number, broken)

-- the triples of nodes whose representatives were visited
abbrev pub covers : Scope → List Visit → Triple → Bool
covers s visits x = has visits (rep s x)

-- some reachable triple has these representatives
pub record IsReached (s : Scope) (z : Triple) : Type 0 where
  pub triple : Triple
  pub path : Path
  pub leads : PathLeadsTo s.task path triple
  pub is : rep s triple ≡ z

-- reported at an earlier visit, or at the same visit as an earlier break
abbrev pub IsToldBefore : ℕ × Broken → ℕ × Broken → Type 0
IsToldBefore p q = (p.0 < q.0) ⊎ ((p.0 ≡ q.0) × IsBrokenBefore p.1 q.1)
