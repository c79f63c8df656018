-- What is computed and shown over what nodes hold by value.
use Rattle.std.proofs.Common.{◌≡◌, ◌<◌, ℕ, zero, suc, List, Some, arith}
use Rattle.abi_types.specs.Types.{PlainNode}
use Rattle.abi_types.specs.Graphs.{IsGraph, node_at, view_at, part_at, inner_of}
use Rattle.abi_types.specs.ByValue.{within, AsksInside, by_value}

pub induction-below : (P : ℕ → Type 0) (nodes : List PlainNode) → IsGraph nodes → ((i : ℕ) → ((k to : ℕ) → inner_of (part_at (view_at nodes i) k) ≡ Some to → P to) → P i) → (n i : ℕ) → (node_at nodes i).rank < n → P i
induction-below P nodes is step zero i lt = absurd (omega arith)
induction-below P nodes is step (suc n) i lt = step i (λ k to e. let less = is.falls i k to e in induction-below P nodes is step n to (omega arith))

-- what holds of a node where it holds of all that its parts name by value holds of every node
pub by_value-induction : (P : ℕ → Type 0) (nodes : List PlainNode) → IsGraph nodes → ((i : ℕ) → ((k to : ℕ) → inner_of (part_at (view_at nodes i) k) ≡ Some to → P to) → P i) → (i : ℕ) → P i
by_value-induction P nodes is step i = induction-below P nodes is step (suc (node_at nodes i).rank) i (omega arith)

-- more steps than the rank add nothing
pub within-enough : {X : Type 0} (d : X) (step : (ℕ → X) → ℕ → X) (nodes : List PlainNode) → IsGraph nodes → AsksInside nodes step → (m n i : ℕ) → (node_at nodes i).rank < m → (node_at nodes i).rank < n → within d step m i ≡ within d step n i
unfolding within
within-enough d step nodes is asks zero n i lm ln = absurd (omega arith)
within-enough d step nodes is asks (suc m) zero i lm ln = absurd (omega arith)
within-enough d step nodes is asks (suc m) (suc n) i lm ln =
    asks (within d step m) (within d step n) i (λ k to e. let less = is.falls i k to e in within-enough d step nodes is asks m n to (omega arith) (omega arith))

pub by_value-step : {X : Type 0} (d : X) (step : (ℕ → X) → ℕ → X) (nodes : List PlainNode) → IsGraph nodes → AsksInside nodes step → (i : ℕ) → by_value d step nodes i ≡ step (by_value d step nodes) i
unfolding by_value within
by_value-step d step nodes is asks i =
    asks (within d step (node_at nodes i).rank) (by_value d step nodes) i
    (λ k to e. let less = is.falls i k to e in within-enough d step nodes is asks (node_at nodes i).rank (suc (node_at nodes to).rank) to (omega arith) (omega arith))
