-- Representatives of classes.
use Rattle.std.specs.Prelude.{◌≡◌, ◌≢◌, ◌<◌, ◌≤◌, ◌⊎◌, ℕ, List, length}
use Rattle.abi_types.specs.Types.{PlainNode}
use Rattle.abi_types.specs.Graphs.{node_at}
use Rattle.type_classes.specs.Blocks.{at}

abbrev pub entry_at : List PlainNode → ℕ → ℕ
entry_at nodes x = (node_at nodes x).entry

-- for each class one of its nodes
pub record AreOfClasses (n count : ℕ) (class : ℕ → ℕ) (list : List ℕ) : Type 0 where
  pub len : length list ≡ count
  pub inside : (c : ℕ) → c < count → at list c < n
  pub own : (c : ℕ) → c < count → class (at list c) ≡ c

-- at most the representative of node x's class has changed; its entry is not after that of x, nor after the old one
pub record IsLowered (nodes : List PlainNode) (old new : List ℕ) (c x : ℕ) : Type 0 where
  pub len : length new ≡ length old
  pub others : (d : ℕ) → d ≢ c → at new d ≡ at old d
  pub one_of : (at new c ≡ at old c) ⊎ (at new c ≡ x)
  pub low : entry_at nodes (at new c) ≤ entry_at nodes x
  pub lower : entry_at nodes (at new c) ≤ entry_at nodes (at old c)

-- for each node the node with the least entry offset in its class
pub record AreReps (nodes : List PlainNode) (class : ℕ → ℕ) (reps : List ℕ) : Type 0 where
  pub each : length reps ≡ length nodes
  pub inside : (x : ℕ) → x < length nodes → at reps x < length nodes
  pub own : (x : ℕ) → x < length nodes → class (at reps x) ≡ class x
  pub same : (x y : ℕ) → x < length nodes → y < length nodes → class x ≡ class y → at reps x ≡ at reps y
  pub least : (x : ℕ) → x < length nodes → entry_at nodes (at reps x) ≤ entry_at nodes x
