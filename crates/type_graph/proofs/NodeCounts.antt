-- What the nodes count that were made so far, and all of them.
use Rattle.std.proofs.Common.{◌≡◌, ◌<◌, ◌≤◌, ◌+◌, ℕ, List, [], ◌∷◌, length, map, take, slice_get, Some, None, refl, sym, ◌∙◌, ap, arith}
use Rattle.std.specs.Prelude.{sum_by}
use Rattle.std.proofs.lemmas.List.Sums.{sum_by-cons, sum_by_more_le}
use Rattle.std.proofs.lemmas.Option.{slice_get_within, get_or_from_slice_get}
use Rattle.abi_base.specs.declared.limit.Limit.{Limit}
use Rattle.abi_base.specs.Budgets.{BudgetState, allowed}
use Rattle.abi_base.proofs.lemmas.Budgets.{SpentOn}
use Rattle.abi_base.proofs.lemmas.Lists.{map-map}
use Rattle.dwarf_entries.specs.Debug.{PlainDwarf}
use Rattle.abi_types.specs.Types.{PlainNode}
use Rattle.type_reach.specs.References.{Type_}
use Rattle.type_graph.specs.Nodes.{made_node, made_nodes, found_types}
use Rattle.type_graph.specs.Sharing.{first_node, first_nodes}
use Rattle.type_graph.specs.Spending.{PassesBy}

sum-map : {X : Type 0} (f : PlainNode → ℕ) (g : X → PlainNode) (xs : List X) → sum_by f (map g xs) ≡ sum_by (λ x. f (g x)) xs
sum-map f g [] = refl
sum-map f g (x ∷ xs) = omega (arith, sum_by-cons f (g x) (map g xs), sum_by-cons (λ y. f (g y)) x xs, sum-map f g xs)

module _ (d : PlainDwarf) (found : List ℕ) (f : PlainNode → ℕ) (same : (r : Type_) → f (first_node d found r) ≡ f (made_node d found r)) where
  each-same : (rs : List Type_) → sum_by f (map (first_node d found) rs) ≡ sum_by f (map (made_node d found) rs)
  each-same [] = refl
  each-same (r ∷ rs) = omega (arith, same r, each-same rs, sum_by-cons f (first_node d found r) (map (first_node d found) rs), sum_by-cons f (made_node d found r) (map (made_node d found) rs))

  pub all-same : sum_by f (first_nodes d found) ≡ sum_by f (made_nodes d found)
  unfolding first_nodes made_nodes
  all-same = each-same (found_types found)

  -- the nodes of the first entries, and that of one more
  front : (nodes : List PlainNode) (k e : ℕ) → nodes ≡ first_node d found None ∷ map (λ (x : ℕ). first_node d found (Some x)) (take k found) → slice_get found k ≡ Some e → sum_by f nodes + f (first_node d found (Some e)) ≤ sum_by f (made_nodes d found)
  unfolding first_nodes made_nodes
  front nodes k e is at =
      let g : ℕ → PlainNode = λ x. first_node d found (Some x) in
      let void : PlainNode = first_node d found None in
      let so_far = ap (sum_by f) is ∙ sum_by-cons f void (map g (take k found)) in
      let all : sum_by f (first_nodes d found) ≡ f void + sum_by f (map g found) =
      ap (λ (xs : List PlainNode). sum_by f (void ∷ xs)) (map-map (first_node d found) (λ (x : ℕ). Some x) found) ∙ sum_by-cons f void (map g found) in
      let more = sum_by_more_le (λ x. f (g x)) found k e (slice_get_within found k e at) in
      let here = ap (λ x. f (g x)) (get_or_from_slice_get found k e e at) in
      omega (arith, so_far, all, more, here, sum-map f g (take k found), sum-map f g found, all-same)

  pub void-passes : (limit : Limit) (units : ℕ) (l : Limit) → (l ≡ limit) × (allowed limit units < f (first_node d found None)) → (l ≡ limit) × (allowed limit units < sum_by f (made_nodes d found))
  unfolding made_nodes
  void-passes limit units l passes = (passes.0, omega (arith, passes.1, same None, sum_by-cons f (made_node d found None) (map (made_node d found) (map (λ (x : ℕ). Some x) found))))

  pub node-passes : (limit : Limit) (units : ℕ) (nodes : List PlainNode) (k e n : ℕ) (b : BudgetState) (l : Limit) → SpentOn limit units f nodes b → nodes ≡ first_node d found None ∷ map (λ (x : ℕ). first_node d found (Some x)) (take k found) → slice_get found k ≡ Some e
      → PassesBy b n l → n ≡ f (first_node d found (Some e)) → (l ≡ limit) × (allowed limit units < sum_by f (made_nodes d found))
  node-passes limit units nodes k e n b l so_far is at passes costs = (passes.0 ∙ so_far.limit_is, omega (arith, passes.1, so_far.most, so_far.taken, front nodes k e is at, costs))

  pub nodes-within : (limit : Limit) (units : ℕ) (nodes : List PlainNode) (b : BudgetState) → SpentOn limit units f nodes b → nodes ≡ first_nodes d found → sum_by f (made_nodes d found) ≤ allowed limit units
  nodes-within limit units nodes b so_far is = omega (arith, so_far.within, so_far.most, so_far.taken, ap (sum_by f) is, all-same)
