-- The node of an entry: the one that `node_of` finds is a node of that entry, and a node of the entry is the one that it finds.
use Rattle.std.proofs.Common.{◌≡◌, ◌<◌, ◌≤◌, ◌+◌, ℕ, zero, suc, Bool, true, false, List, Some, length, sym, ap, ◌∙◌, arith, inl, inr}
use Rattle.std.specs.Prelude.{◌==◌, find}
use Rattle.std.specs.List.{range_with_len}
use Rattle.std.proofs.lemmas.Bool.{cases_Bool, cases_order, eq-eqb, eqb-true, ne_eqb}
use Rattle.std.proofs.lemmas.Option.{same_Some, none-some}
use Rattle.abi_types.specs.Types.{PlainNode}
use Rattle.abi_types.specs.Graphs.{IsGraph, node_at, node_of}

find_range-is : (p : ℕ → Bool) (a n i : ℕ) → find p (range_with_len a n) ≡ Some i → (a ≤ i) × (i < a + n) × (p i ≡ true)
find_range-is p a zero i e = absurd (none-some i e)
find_range-is p a (suc n) i e =
    elim (cases_Bool (p a)) [
      | inl here ↦ let same : a ≡ i = same_Some a i (rw here at e) in (omega arith, omega arith, rw (← same) here)
      | inr other ↦ let there = find_range-is p (a + 1) n i (rw other at e) in (omega (arith, there.0), omega (arith, there.1), there.2)
    ]

-- the node that is found is a node of the entry
pub node_of-is : (nodes : List PlainNode) (entry i : ℕ) → node_of nodes entry ≡ Some i → (i < length nodes) × ((node_at nodes i).entry ≡ entry)
unfolding node_of
node_of-is nodes entry i e =
    let found = find_range-is (λ j. (node_at nodes j).entry == entry) 0 (length nodes) i e in
    (omega (arith, found.1), eqb-true (node_at nodes i).entry entry found.2)

find_range-at : (p : ℕ → Bool) (a n i : ℕ) → a ≤ i → i < a + n → p i ≡ true → ((j : ℕ) → a ≤ j → j < i → p j ≡ false) → find p (range_with_len a n) ≡ Some i
find_range-at p a zero i from below passes before = absurd (omega arith)
find_range-at p a (suc n) i from below passes before =
    elim (cases_order a i) [
      | inl same ↦ let here : p a ≡ true = ap p same ∙ passes in rw here (ap (λ (j : ℕ). Some j) same)
      | inr (inl less) ↦ let fails : p a ≡ false = before a (omega arith) less in rw fails (find_range-at p (a + 1) n i (omega arith) (omega arith) passes (λ j le lt. before j (omega arith) lt))
      | inr (inr above) ↦ absurd (omega arith)
    ]

-- a node of the entry is the node of the entry, since entries are apart
pub node_of-at : (nodes : List PlainNode) (entry i : ℕ) → IsGraph nodes → i < length nodes → (node_at nodes i).entry ≡ entry → node_of nodes entry ≡ Some i
unfolding node_of
node_of-at nodes entry i graph inside here =
    find_range-at (λ (j : ℕ). (node_at nodes j).entry == entry) 0 (length nodes) i (omega arith) (omega arith) (eq-eqb (node_at nodes i).entry entry here) (λ j le lt.
    ne_eqb (node_at nodes j).entry entry (λ same. let is : j ≡ i = graph.apart j i (omega arith) inside (same ∙ sym here) in omega arith))
