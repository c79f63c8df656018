-- Classes of nodes that cannot be told apart, and triples of classes.
use Rattle.std.specs.Prelude.{◌≡◌, ◌<◌, ◌&&◌, nat_lt, ℕ, Bool, true, false, List, [], Some, length}
use Rattle.abi_types.specs.declared.kind.Way.{Way}
use Rattle.abi_types.specs.Types.{PlainNode}
use Rattle.abi_types.specs.Graphs.{node_at, IsGraph}
use Rattle.abi_types.specs.ClassLooks.{look_of}
use Rattle.pair_rules.specs.Steps.{Task, Triple, is_marked, breaks_of, step}

-- Nodes of one class have equal labels, and views that are equal except for the nodes that parts name. The nodes that
-- their parts at one position name are in one class.
abbrev pub IsStable : List PlainNode → (ℕ → ℕ) → Type 0
IsStable nodes class = (i j : ℕ) → i < length nodes → j < length nodes → class i ≡ class j → look_of class (node_at nodes i) ≡ look_of class (node_at nodes j)

-- old nodes with equal labels have equal marks for each way
abbrev pub AreEven : Task → Type 0
AreEven t = (a b : ℕ) (way : Way) → a < length t.old → b < length t.old → (node_at t.old a).labels ≡ (node_at t.old b).labels → is_marked t a way ≡ is_marked t b way

-- two graphs with even marks and stable classes of their nodes
pub record AreClasses (t : Task) (old new : ℕ → ℕ) : Type 0 where
  pub old_graph : IsGraph t.old
  pub new_graph : IsGraph t.new
  pub old_stable : IsStable t.old old
  pub new_stable : IsStable t.new new
  pub even : AreEven t

-- both numbers of the triple are those of nodes
pub record IsInside (t : Task) (x : Triple) : Type 0 where
  pub old : x.old < length t.old
  pub new : x.new < length t.new

abbrev pub is_inside : Task → Triple → Bool
is_inside t x = nat_lt x.old (length t.old) && nat_lt x.new (length t.new)

-- the classes of a triple's nodes, reached in the same way
abbrev pub classed : (ℕ → ℕ) → (ℕ → ℕ) → Triple → Triple
classed old new x = record { old = old x.old; new = new x.new; way = x.way }

-- A triple of nodes of the same classes represents this one: it breaks no rule unless its old node is marked for its way, and the
-- classes of all triples to which it leads are listed.
pub record StandsFor (t : Task) (old new : ℕ → ℕ) (listed : Triple → Bool) (x : Triple) : Type 0 where
  pub triple : Triple
  pub inside : IsInside t triple
  pub is : classed old new triple ≡ classed old new x
  pub keeps : is_marked t triple.old triple.way ≡ false → breaks_of t triple ≡ []
  pub leads_on : (y : Triple) (i : ℕ) → step t triple i ≡ Some y → listed (classed old new y) ≡ true

-- the triples of nodes whose classes are listed
abbrev pub related : Task → (ℕ → ℕ) → (ℕ → ℕ) → (Triple → Bool) → Triple → Bool
related t old new listed x = is_inside t x && listed (classed old new x)

-- the triple leads along part i to one with the same classes as this one
pub record LeadsLike (t : Task) (old new : ℕ → ℕ) (x : Triple) (i : ℕ) (z : Triple) : Type 0 where
  pub to : Triple
  pub stepped : step t x i ≡ Some to
  pub is : classed old new to ≡ classed old new z
