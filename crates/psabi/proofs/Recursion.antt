-- Steps that agree give the same, over nodes of the same ranks.
use Rattle.std.proofs.Common.{◌≡◌, ◌<◌, ℕ, zero, suc, List, Some, refl, ap, ◌∙◌, arith}
use Rattle.abi_types.specs.Types.{PlainNode}
use Rattle.abi_types.specs.Graphs.{node_at}
use Rattle.abi_types.specs.ByValue.{within, by_value}

same_everywhere : {A B : Type 0} (f g : A → B) → ((a : A) → f a ≡ g a) → f ≡ g
same_everywhere f g same = λ i a. same a i

within-same : {X : Type 0} (d : X) (step other : (ℕ → X) → ℕ → X) → ((f : ℕ → X) (i : ℕ) → step f i ≡ other f i) → (n i : ℕ) → within d step n i ≡ within d other n i
unfolding within
within-same d step other same zero i = refl
within-same {X} d step other same (suc n) i =
    ap (λ (f : ℕ → X). step f i) (same_everywhere (within d step n) (within d other n) (within-same d step other same n)) ∙ same (within d other n) i

-- over nodes of the same ranks, steps that agree give the same: so what a step over a graph gives does not change with the
-- places of calls, where the step does not ask for them
pub by_value-same : {X : Type 0} (d : X) (step other : (ℕ → X) → ℕ → X) (nodes others : List PlainNode) → ((i : ℕ) → (node_at nodes i).rank ≡ (node_at others i).rank) → ((f : ℕ → X) (i : ℕ) → step f i ≡ other f i) → (i : ℕ)
    → by_value d step nodes i ≡ by_value d other others i
unfolding by_value
by_value-same d step other nodes others ranks same i = ap (λ (rank : ℕ). within d step (suc rank) i) (ranks i) ∙ within-same d step other same (suc (node_at others i).rank) i
