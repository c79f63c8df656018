-- The edges of a graph: which parts name which nodes.
use Rattle.std.specs.Prelude.{◌≡◌, ◌≢◌, ◌<◌, ◌≤◌, ◌-◌, ◌↔◌, ◌⊎◌, ℕ, List, length, slice_index_or, Some}
use Rattle.abi_types.specs.Types.{PlainNode}
use Rattle.abi_types.specs.Graphs.{view_at, part_at, to_of}
use Rattle.type_classes.specs.declared.edges.Edge.{Edge}
use Rattle.type_classes.specs.declared.edges.Incoming.{Incoming}
use Rattle.type_classes.specs.Blocks.{at}

-- part k of node x names node s
abbrev pub Names : List PlainNode → ℕ → ℕ → ℕ → Type 0
Names nodes x k s = to_of (part_at (view_at nodes x) k) ≡ Some s

-- how many nodes there are
abbrev pub node_count : Incoming → ℕ
node_count incoming = length incoming.last.items

abbrev pub no_edge : Edge
no_edge = record { to = 0; part = (0, 0); earlier = 0 }

abbrev pub edge_at : List Edge → ℕ → Edge
edge_at edges i = slice_index_or edges i no_edge

-- ---- links

-- A link is one more than the index of the last edge below a bound that leads to a node, or 0 where none does.
pub record IsLast (edges : List Edge) (bound s link : ℕ) : Type 0 where
  pub inside : link ≤ bound
  pub own : 0 < link → (edge_at edges (link - 1)).to ≡ s
  pub none : (j : ℕ) → link ≤ j → j < bound → (edge_at edges j).to ≢ s

-- the edges to one node are linked
pub record HasLinks (edges : List Edge) (ends : List ℕ) : Type 0 where
  pub earlier : (i : ℕ) → i < length edges → IsLast edges i (edge_at edges i).to (edge_at edges i).earlier
  pub last : (s : ℕ) → s < length ends → IsLast edges (length edges) s (at ends s)

abbrev pub AreLinked : Incoming → Type 0
AreLinked incoming = HasLinks incoming.edges.items incoming.last.items

-- ---- the observable state of the edges

-- an edge with this index or a later one leads to a node, from this part
abbrev pub LeadsFrom : List Edge → ℕ → ℕ → ℕ × ℕ → Type 0
LeadsFrom edges link s e = (i : ℕ) × (link ≤ i) × (i < length edges) × ((edge_at edges i).to ≡ s) × ((edge_at edges i).part ≡ e)

-- a part, given by its position and its node, is among those that name a node
abbrev pub IsIncoming : Incoming → ℕ → ℕ × ℕ → Type 0
IsIncoming incoming s e = LeadsFrom incoming.edges.items 0 s e

-- The edges are those from the parts of the nodes below a bound.
pub record AreIncoming (nodes : List PlainNode) (bound : ℕ) (incoming : Incoming) : Type 0 where
  pub many : node_count incoming ≡ length nodes
  pub linked : AreLinked incoming
  pub edges : (s k x : ℕ) → IsIncoming incoming s (k, x) ↔ ((x < bound) × Names nodes x k s)

-- one more part names a node
pub record IsAdded (old new : Incoming) (to : ℕ) (part : ℕ × ℕ) : Type 0 where
  pub many : node_count new ≡ node_count old
  pub linked : AreLinked new
  pub pairs : (s : ℕ) (e : ℕ × ℕ) → IsIncoming new s e ↔ (IsIncoming old s e ⊎ ((s ≡ to) × (e ≡ part)))
