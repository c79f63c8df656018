-- Nodes that cannot be told apart.
use Rattle.std.specs.Prelude.{◌≡◌, ◌<◌, ℕ, Bool, true, List, length, Some}
use Rattle.abi_types.specs.Types.{PlainNode}
use Rattle.abi_types.specs.Graphs.{node_at, view_at, part_at, to_of}
use Rattle.abi_types.specs.ClassLooks.{shape_of}

-- Related nodes have equal lists of labels, and views that are equal except for the nodes that parts name. The nodes that their
-- parts at one position name are related too.
pub record IsAlikeness (nodes : List PlainNode) (r : ℕ → ℕ → Bool) : Type 0 where
  pub shapes : (i j : ℕ) → r i j ≡ true → shape_of (node_at nodes i) ≡ shape_of (node_at nodes j)
  pub parts : (i j k a b : ℕ) → r i j ≡ true → to_of (part_at (view_at nodes i) k) ≡ Some a → to_of (part_at (view_at nodes j) k) ≡ Some b → r a b ≡ true

-- Two nodes are alike if some such relation has them: alikeness is the greatest of these relations.
abbrev pub AreAlike : List PlainNode → ℕ → ℕ → Type 0
AreAlike nodes i j = (r : ℕ → ℕ → Bool) × IsAlikeness nodes r × (r i j ≡ true)

-- alike nodes are in one class
abbrev pub KeepsAlike : List PlainNode → (ℕ → ℕ) → Type 0
KeepsAlike nodes class = (i j : ℕ) → i < length nodes → j < length nodes → AreAlike nodes i j → class i ≡ class j
