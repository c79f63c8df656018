-- Classes of nodes during refinement.
use Rattle.std.specs.Prelude.{◌≡◌, ◌<◌, ℕ, List, length}
use Rattle.abi_types.specs.Types.{PlainNode}
use Rattle.abi_types.specs.Graphs.{node_at}
use Rattle.abi_types.specs.ClassLooks.{shape_of}
use Rattle.type_classes.specs.Alike.{AreAlike}
use Rattle.type_classes.specs.Edges.{Names}

-- Nodes of one class have one shape, and the nodes that their parts at one position name are in one base class. Alike nodes are in
-- one class.
pub record IsRefined (nodes : List PlainNode) (class base : ℕ → ℕ) : Type 0 where
  pub shapes : (x y : ℕ) → x < length nodes → y < length nodes → class x ≡ class y → shape_of (node_at nodes x) ≡ shape_of (node_at nodes y)
  pub parts : (x y k a b : ℕ) → x < length nodes → y < length nodes → class x ≡ class y → Names nodes x k a → Names nodes y k b → base (class a) ≡ base (class b)
  pub alike : (x y : ℕ) → x < length nodes → y < length nodes → AreAlike nodes x y → class x ≡ class y
