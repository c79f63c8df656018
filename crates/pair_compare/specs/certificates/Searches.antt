-- What a search that found no break knows.
use Rattle.std.specs.Prelude.{◌≡◌, ℕ, List, [], length}
use Rattle.abi_types.specs.Exports.{PlainExport}
use Rattle.abi_types.specs.Graphs.{IsGraph}
use Rattle.pair_rules.specs.Stable.{AreEven}
use Rattle.type_classes.specs.Classes.{PlainClasses, AreSound, AreCoarsest}
use Rattle.pair_explorer.specs.declared.visits.Visit.{Visit}
use Rattle.pair_explorer.specs.Scopes.{Scope, IsScope}
use Rattle.pair_explorer.specs.Explorations.{IsExploration}
use Rattle.cert_check.specs.Compatible.{Sides, IsCompared, IsBound, task_of}

-- the types of all exports that are compared, with classes of their nodes
abbrev pub scope_of : Sides → PlainClasses → PlainClasses → Scope
scope_of s old new = record { task = task_of s; old = old; new = new }

-- the sonames agree, and each compared old export binds and keeps the rules of exports
pub record AreBound (s : Sides) : Type 0 where
  pub sonames : s.old.soname ≡ s.new.soname
  pub exports : (k : ℕ) (e : PlainExport) → IsCompared s k e → IsBound s e

-- nodes are of one class exactly where they are alike, and an exploration over these classes found no break
pub record IsUnbroken (s : Sides) (old new : PlainClasses) (visits : List Visit) : Type 0 where
  pub scope : IsScope (scope_of s old new)
  pub old_coarsest : AreCoarsest old
  pub new_coarsest : AreCoarsest new
  pub exploration : IsExploration (scope_of s old new) visits []

-- what the type of classes guarantees, for classes of the nodes of both graphs
pub record AreClassesOf (s : Sides) (old new : PlainClasses) : Type 0 where
  pub old_sound : AreSound old
  pub new_sound : AreSound new
  pub old_graph : IsGraph s.old.graph
  pub new_graph : IsGraph s.new.graph

-- each old node has a mark at each way, and nodes with equal labels are marked alike
pub record AreMarksOf (s : Sides) : Type 0 where
  pub direct : length s.marks.direct ≡ length s.old.graph
  pub pointer : length s.marks.pointer ≡ length s.old.graph
  pub even : AreEven (task_of s)
