-- What is explored: the types of two libraries, where one node of each class stands for all nodes of it.
use Rattle.std.specs.Prelude.{◌≡◌, ◌<◌, ℕ, Bool, false, List, length, Option, Some, slice_get, slice_index_or}
use Rattle.std.specs.Option.{option_map}
use Rattle.abi_types.specs.declared.library.Marks.{Marks}
use Rattle.abi_types.specs.Types.{PlainNode}
use Rattle.abi_types.specs.Graphs.{IsGraph}
use Rattle.pair_rules.specs.Steps.{PlainRoot, Task, Triple, step}
use Rattle.pair_rules.specs.Paths.{Path, From, Then, root_triple}
use Rattle.type_classes.specs.Classes.{PlainClasses, rep_of}

-- what is compared, and the classes of the old nodes and of the new ones
pub record Scope : Type 0 where
  pub task : Task
  pub old : PlainClasses
  pub new : PlainClasses

abbrev pub task_of : List PlainNode → List PlainNode → Marks → List PlainRoot → Task
task_of old new marks roots = record { old = old; new = new; direct = marks.direct; pointer = marks.pointer; roots = roots }

abbrev pub scope : List PlainNode → List PlainNode → List PlainRoot → Marks → PlainClasses → PlainClasses → Scope
scope old new roots marks old_classes new_classes = record { task = task_of old new marks roots; old = old_classes; new = new_classes }

-- the nodes of each root are in the graphs
abbrev pub AreInside : List PlainNode → List PlainNode → List PlainRoot → Type 0
AreInside old new roots = (k : ℕ) (root : PlainRoot) → slice_get roots k ≡ Some root → (root.old < length old) × (root.new < length new)

-- they stand in strictly ascending order of their exports
abbrev pub AreAscending : List PlainRoot → Type 0
AreAscending roots = (j k : ℕ) (first later : PlainRoot) → j < k → slice_get roots j ≡ Some first → slice_get roots k ≡ Some later → first.export < later.export

-- each node has a mark, and nodes of one class have the same mark
pub record AreEvenMarks (classes : PlainClasses) (marks : List Bool) : Type 0 where
  pub each : length marks ≡ length classes.nodes
  pub even : (a b : ℕ) → rep_of classes a ≡ rep_of classes b → slice_index_or marks a false ≡ slice_index_or marks b false

-- the nodes of each root are in the graphs, and the classes are those of the two graphs
pub record HasNodes (s : Scope) : Type 0 where
  pub roots : AreInside s.task.old s.task.new s.task.roots
  pub old_nodes : s.old.nodes ≡ s.task.old
  pub new_nodes : s.new.nodes ≡ s.task.new

-- both lists of nodes are graphs
pub record AreGraphs (s : Scope) : Type 0 where
  pub old : IsGraph s.task.old
  pub new : IsGraph s.task.new

-- What a caller guarantees: the nodes of each root are in the graphs; the roots stand in strictly ascending order of their exports;
-- the classes are those of the two graphs; and each old node has a mark at each way, which is the same within a class.
pub record IsScope (s : Scope) : Type 0 where
  pub nodes : HasNodes s
  pub ascending : AreAscending s.task.roots
  pub direct : AreEvenMarks s.old s.task.direct
  pub pointer : AreEvenMarks s.old s.task.pointer

-- the representatives of a triple's nodes, with the same way
abbrev pub rep : Scope → Triple → Triple
rep s x = record { old = rep_of s.old x.old; new = rep_of s.new x.new; way = x.way }

-- the representatives of what a step leads to
unfoldable pub rep_step : Scope → Triple → ℕ → Option Triple
rep_step s x i = option_map (rep s) (step s.task x i)

-- The path leads to the triple over representatives: it begins at those of a root, and each step starts from the representatives
-- that the step before led to.
abbrev pub LeadsByRep : Scope → Path → Triple → Type 0
LeadsByRep s (From export) x = (k : ℕ) × (root : PlainRoot) × (slice_get s.task.roots k ≡ Some root) × (root.export ≡ export) × (x ≡ rep s (root_triple root))
LeadsByRep s (Then path part) y = (x : Triple) × LeadsByRep s path x × (rep_step s x part ≡ Some y)
