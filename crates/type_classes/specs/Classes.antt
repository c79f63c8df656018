-- Classes of a graph's nodes, each with its representative.
use Rattle.std.specs.Prelude.{◌≡◌, ◌<◌, ◌≤◌, ◌==◌, ◌↔◌, ℕ, List, length, slice_index_or, filter}
use Rattle.std.specs.List.{range_with_len}
use Rattle.abi_types.specs.Types.{PlainNode}
use Rattle.abi_types.specs.Graphs.{node_at}
use Rattle.pair_rules.specs.Stable.{IsStable}
use Rattle.type_classes.specs.Alike.{AreAlike}

-- the nodes of a graph, and for each of them the number of its class's representative
pub record PlainClasses : Type 0 where
  pub nodes : List PlainNode
  pub reps : List ℕ

-- the representative of a node's class; past the end each number represents itself
unfoldable pub rep_in : List ℕ → ℕ → ℕ
rep_in reps i = slice_index_or reps i i

abbrev pub rep_of : PlainClasses → ℕ → ℕ
rep_of c = rep_in c.reps

-- The invariants of the classes of a graph: each node has a class, whose representative is its node with the least entry offset.
pub record AreSound (c : PlainClasses) : Type 0 where
  pub each : length c.reps ≡ length c.nodes
  pub inside : (i : ℕ) → i < length c.nodes → rep_of c i < length c.nodes
  pub own : (i : ℕ) → rep_of c (rep_of c i) ≡ rep_of c i
  pub least : (i : ℕ) → (node_at c.nodes (rep_of c i)).entry ≤ (node_at c.nodes i).entry
  pub stable : IsStable c.nodes (rep_of c)

-- nodes share a class exactly where they are alike
abbrev pub AreCoarsest : PlainClasses → Type 0
AreCoarsest c = (i j : ℕ) → i < length c.nodes → j < length c.nodes → (rep_of c i ≡ rep_of c j) ↔ AreAlike c.nodes i j

-- no node that is alike to this one has an earlier entry
abbrev pub IsLeast : List PlainNode → ℕ → Type 0
IsLeast nodes i = (j : ℕ) → j < length nodes → AreAlike nodes j i → (node_at nodes i).entry ≤ (node_at nodes j).entry

-- the entry is the least among the nodes that are alike to a node
pub record IsLeastEntry (nodes : List PlainNode) (entry a : ℕ) : Type 0 where
  pub node : ℕ
  pub inside : node < length nodes
  pub alike : AreAlike nodes a node
  pub least : IsLeast nodes node
  pub is : entry ≡ (node_at nodes node).entry

-- the representatives, one for each class
unfoldable pub class_reps : PlainClasses → List ℕ
class_reps c = filter (λ i. rep_of c i == i) (range_with_len 0 (length c.nodes))

-- how many classes there are
abbrev pub class_count : PlainClasses → ℕ
class_count c = length (class_reps c)
