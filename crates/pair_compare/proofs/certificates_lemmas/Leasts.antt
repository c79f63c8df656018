-- The least entry of those alike to a node.
use Rattle.std.proofs.Common.{◌≡◌, ◌<◌, ◌≤◌, ℕ, zero, suc, List, length, refl, inl, inr, arith}
use Rattle.std.proofs.lemmas.Bool.{cases_lt}
use Rattle.abi_types.specs.Types.{PlainNode}
use Rattle.abi_types.specs.Graphs.{IsGraph, node_at}
use Rattle.abi_types.specs.ClassLooks.{look_of}
use Rattle.type_classes.specs.Alike.{AreAlike, KeepsAlike}
use Rattle.type_classes.specs.Classes.{IsLeastEntry}

-- ---- alike nodes

pub record AlikeLaws : Type 0 where
  pub reflexive : (nodes : List PlainNode) (i : ℕ) → AreAlike nodes i i
  pub symmetric : (nodes : List PlainNode) (i j : ℕ) → AreAlike nodes i j → AreAlike nodes j i
  pub transitive : (nodes : List PlainNode) (i j k : ℕ) → IsGraph nodes → i < length nodes → j < length nodes → k < length nodes → AreAlike nodes i j → AreAlike nodes j k → AreAlike nodes i k
  pub looks : (nodes : List PlainNode) (class : ℕ → ℕ) → IsGraph nodes → KeepsAlike nodes class → (i j : ℕ) → AreAlike nodes i j → look_of class (node_at nodes i) ≡ look_of class (node_at nodes j)

module _ (laws : AlikeLaws) (nodes : List PlainNode) (graph : IsGraph nodes) where
  -- alike nodes have one least entry
  pub one_least : (e f a b : ℕ) → a < length nodes → b < length nodes → AreAlike nodes a b → IsLeastEntry nodes e a → IsLeastEntry nodes f b → e ≡ f
  one_least e f a b a_in b_in alike one other =
      let to_b = laws.transitive nodes one.node a b graph one.inside a_in b_in (laws.symmetric nodes a one.node one.alike) alike in
      let to = laws.transitive nodes one.node b other.node graph one.inside b_in other.inside to_b other.alike in
      let low = one.least other.node other.inside (laws.symmetric nodes one.node other.node to) in
      let high = other.least one.node one.inside to in
      omega (arith, low, high, one.is, other.is)

  pub least_moved : (e a b : ℕ) → a < length nodes → b < length nodes → AreAlike nodes a b → IsLeastEntry nodes e a → IsLeastEntry nodes e b
  least_moved e a b a_in b_in alike least = record {
    node = least.node;
    inside = least.inside;
    alike = laws.transitive nodes b a least.node graph b_in a_in least.inside (laws.symmetric nodes a b alike) least.alike;
    least = least.least;
    is = least.is;
  }

  -- where no entry before a node's own is the least of those alike to it, its own is
  module _ (i : ℕ) (i_in : i < length nodes) (none : (r : ℕ) → IsLeastEntry nodes r i → r < (node_at nodes i).entry → ⊥) where
    lowest : (n j : ℕ) → (node_at nodes j).entry ≤ n → j < length nodes → AreAlike nodes j i → (node_at nodes i).entry ≤ (node_at nodes j).entry
    lowest zero j small j_in alike = elim (cases_lt (node_at nodes j).entry (node_at nodes i).entry) [
      | inl less ↦ absurd (none (node_at nodes j).entry (record { node = j; inside = j_in; alike = laws.symmetric nodes j i alike; least = λ k k_in to. omega (arith, small); is = refl }) less)
      | inr past ↦ omega (arith, past)
    ]
    lowest (suc n) j small j_in alike = elim (cases_lt (node_at nodes j).entry (node_at nodes i).entry) [
      | inl less ↦ absurd (none (node_at nodes j).entry (record {
        node = j;
        inside = j_in;
        alike = laws.symmetric nodes j i alike;
        least = λ k k_in to. elim (cases_lt (node_at nodes k).entry (node_at nodes j).entry) [
          | inl under ↦
              let low = lowest n k (omega (arith, under, small)) k_in (laws.transitive nodes k j i graph k_in j_in i_in to alike) in
              absurd (omega (arith, low, under, less))
          | inr other ↦ omega (arith, other)
        ];
        is = refl;
      }) less)
      | inr past ↦ omega (arith, past)
    ]

    pub own_least : IsLeastEntry nodes (node_at nodes i).entry i
    own_least = record {
      node = i;
      inside = i_in;
      alike = laws.reflexive nodes i;
      least = λ j j_in alike. lowest (node_at nodes j).entry j (omega arith) j_in alike;
      is = refl;
    }
