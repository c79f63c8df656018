-- Walks into an object by numbers. Each number selects a member or an element.
use Rattle.std.specs.Prelude.{◌≡◌, ◌≢◌, ◌<◌, ◌+◌, ◌↔◌, ℕ, true, List, [], ◌∷◌, Some, Contains}
use Rattle.abi_types.specs.Types.{PlainNode}
use Rattle.abi_types.specs.declared.leaf.Leaf.{Leaf}
use Rattle.abi_types.specs.Forms.{is_aggregate, is_leaf}
use Rattle.abi_types.specs.Graphs.{IsGraph, view_at}
use Rattle.abi_types.specs.Inside.{Inside, inside_at, count_inside}
use Rattle.abi_types.specs.Leaves.{leaf_of, leaves_of}

-- the walk from the object of a node, at an offset in bits, ends at the leaf
unfoldable pub IsWalk : List PlainNode → ℕ → ℕ → ℕ → List ℕ → Leaf → Type 0
IsWalk nodes i bit width [] l = ((view_at nodes i).size ≢ 0) × (is_leaf (view_at nodes i).kind ≡ true) × (leaf_of (view_at nodes i) bit width ≡ l)
IsWalk nodes i bit width (n ∷ steps) l =
    ((view_at nodes i).size ≢ 0) × (is_aggregate (view_at nodes i).kind ≡ true) × (n < count_inside (view_at nodes i))
    × ((x : Inside) × (inside_at nodes (view_at nodes i) n ≡ Some x) × IsWalk nodes x.to (bit + x.bit) x.width steps l)

-- the leaves are the ends of walks
abbrev pub LeavesAreEndsOfWalks : Type 0
LeavesAreEndsOfWalks = (nodes : List PlainNode) → IsGraph nodes → (i bit width : ℕ) (l : Leaf) → Contains (leaves_of nodes i bit width) l ↔ ((steps : List ℕ) × IsWalk nodes i bit width steps l)
