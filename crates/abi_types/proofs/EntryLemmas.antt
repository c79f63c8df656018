-- Nodes in order of their entries, and the search there.
use Rattle.std.proofs.Common.{◌≡◌, ◌≢◌, ◌<◌, ◌≤◌, ◌+◌, ℕ, zero, suc, Bool, true, false, List, Some, None, length, get_or, refl, sym, ap, ◌∙◌, arith, subst, inl, inr}
use Rattle.std.specs.Prelude.{◌==◌, find, All}
use Rattle.std.specs.List.{range_with_len, AllWithin, HoldsAt}
use Rattle.std.specs.List.Sorted.{IsNonDecreasingBy}
use Rattle.std.specs.Ordering.{nat_cmp, ordering_index}
use Rattle.std.specs.declared.cmp.Ordering.TheVariants.{Less, Equal, Greater}
use Rattle.std.proofs.lemmas.Bool.{cases_lt, ne_eqb}
use Rattle.std.proofs.lemmas.Cmp.{ranked}
use Rattle.std.proofs.lemmas.List.Elements.{All-from_get_or, All-get_or}
use Rattle.abi_base.proofs.lemmas.Contained.{in_permutation}
use Rattle.abi_base.proofs.lemmas.Orders.{nat_equal, index_le}
use Rattle.abi_types.specs.Types.{PlainNode}
use Rattle.abi_types.specs.Graphs.{IsGraph, node_at, node_of}
use Rattle.abi_types.specs.Entries.{entry_at, IsEntryOrder}
use Rattle.abi_types.proofs.lemmas.Nodes.{node_of-at}
use Rattle.abi_types.proofs.lemmas.Ranges.{below_all}
use Rattle.abi_types.proofs.lemmas.Numbers.{nat_less_is}

-- ---- the search

pub searchable : (nodes : List PlainNode) (order : List ℕ) (e : ℕ) → IsNonDecreasingBy (entry_at nodes) order → IsNonDecreasingBy (λ (k : ℕ). ordering_index (nat_cmp (entry_at nodes k) e)) order
searchable nodes order e rises i j d le below = index_le (entry_at nodes (get_or order i d)) (entry_at nodes (get_or order j d)) e (rises i j d le below)

from_greater : (x y : ℕ) → nat_cmp x y ≡ Greater → y < x
from_greater x y e = ranked x y Greater (sym e)

-- the number at the place that was found
pub found_number : (nodes : List PlainNode) (order : List ℕ) (e k : ℕ) → HoldsAt (λ (i : ℕ). nat_cmp (entry_at nodes i) e ≡ Equal) order k → entry_at nodes (get_or order k 0) ≡ e
found_number nodes order e k equal = nat_equal (entry_at nodes (get_or order k 0)) e (equal 0)

pub number_inside : (nodes : List PlainNode) (order : List ℕ) (k : ℕ) → IsEntryOrder order nodes → k < length order → get_or order k 0 < length nodes
number_inside nodes order k is inside = All-get_or (λ (i : ℕ). i < length nodes) order k 0 inside (below_all (length nodes) order is.all)

-- no number of the order, where none was found
pub no_number : (nodes : List PlainNode) (order : List ℕ) (e i : ℕ) → AllWithin (λ (k : ℕ). nat_cmp (entry_at nodes k) e ≡ Less) order 0 i × AllWithin (λ (k : ℕ). nat_cmp (entry_at nodes k) e ≡ Greater) order i (length order) → All (λ (k : ℕ). entry_at nodes k ≢ e) order
no_number nodes order e i parted =
    All-from_get_or (λ (k : ℕ). entry_at nodes k ≢ e) order 0 (λ k below same.
    elim (cases_lt k i) [
      | inl before ↦ let lt = nat_less_is (entry_at nodes (get_or order k 0)) e (parted.0 k 0 (omega arith) before) in omega arith
      | inr past ↦ let gt = from_greater (entry_at nodes (get_or order k 0)) e (parted.1 k 0 past below) in omega arith
    ])

-- ---- the node of an entry

find_range-none : (p : ℕ → Bool) (a n : ℕ) → ((j : ℕ) → a ≤ j → j < a + n → p j ≡ false) → find p (range_with_len a n) ≡ None
find_range-none p a zero fails = refl
find_range-none p a (suc n) fails =
    let here : p a ≡ false = fails a (omega arith) (omega arith) in
    rw here (find_range-none p (a + 1) n (λ j le lt. fails j (omega arith) (omega arith)))

pub node_of-none : (nodes : List PlainNode) (entry : ℕ) → ((i : ℕ) → i < length nodes → (node_at nodes i).entry ≢ entry) → node_of nodes entry ≡ None
unfolding node_of
node_of-none nodes entry none = find_range-none (λ (j : ℕ). (node_at nodes j).entry == entry) 0 (length nodes) (λ j le lt. ne_eqb (node_at nodes j).entry entry (none j (omega arith)))

-- no node stands for an entry for which none of the order does
node_of-from_order : (nodes : List PlainNode) (order : List ℕ) (entry : ℕ) → IsEntryOrder order nodes → All (λ (k : ℕ). entry_at nodes k ≢ entry) order → node_of nodes entry ≡ None
node_of-from_order nodes order entry is none =
    node_of-none nodes entry (λ i inside same.
    let has = in_permutation (length nodes) order i is.all inside in
    All-get_or (λ (k : ℕ). entry_at nodes k ≢ entry) order has.0 i has.1 none (ap (entry_at nodes) has.2 ∙ same))

-- the answers of a search in a graph that is seen as its nodes
pub found_node : (nodes seen slice : List PlainNode) (entry number ix : ℕ) → nodes ≡ seen → slice ≡ nodes → IsGraph nodes → number < length slice → entry_at slice number ≡ entry → ix ≡ number → Some ix ≡ node_of seen entry
found_node nodes seen slice entry number ix is_seen is_slice graph inside here is =
    let P : List PlainNode → Type 0 = λ ns. (number < length ns) × (entry_at ns number ≡ entry) in
    let there = subst P is_slice (inside, here) in
    ap (λ (n : ℕ). Some n) is ∙ sym (node_of-at nodes entry number graph there.0 there.1) ∙ ap (λ (ns : List PlainNode). node_of ns entry) is_seen

pub no_node : (nodes seen slice : List PlainNode) (order numbers : List ℕ) (entry : ℕ) → nodes ≡ seen → slice ≡ nodes → numbers ≡ order → IsEntryOrder order nodes → All (λ (k : ℕ). entry_at slice k ≢ entry) numbers → None ≡ node_of seen entry
no_node nodes seen slice order numbers entry is_seen is_slice is_order kept none =
    let here = subst (λ (ns : List PlainNode). All (λ (k : ℕ). entry_at ns k ≢ entry) numbers) is_slice none in
    let there = subst (λ (ks : List ℕ). All (λ (k : ℕ). entry_at nodes k ≢ entry) ks) is_order here in
    sym (node_of-from_order nodes order entry kept there) ∙ ap (λ (ns : List PlainNode). node_of ns entry) is_seen
