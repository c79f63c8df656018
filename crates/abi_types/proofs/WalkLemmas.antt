-- Leaves are the ends of walks, both ways.
use Rattle.std.proofs.Common.{◌≡◌, ◌≢◌, ◌<◌, ◌+◌, ◌∙◌, ℕ, zero, suc, List, [], ◌∷◌, ◌++◌, length, get_or, Option, Some, None, refl, ap, sym, subst, arith, append-nil, inl, inr}
use Rattle.std.specs.Prelude.{Bool, true, false, ◌==◌, Contains}
use Rattle.std.specs.List.{flat_map, range_with_len}
use Rattle.std.proofs.lemmas.List.Elements.{Contains-append_left, Contains-append_right, Contains-append_cases}
use Rattle.abi_types.specs.declared.kind.Kind.TheVariants as kind
use Rattle.abi_types.specs.Types.{PlainNode}
use Rattle.abi_types.specs.Graphs.{IsGraph, view_at, part_at, inner_of}
use Rattle.std.proofs.lemmas.Bool.{eqb-true, eqb-false}
use Rattle.abi_base.proofs.lemmas.Orders.{not_zero}
use Rattle.abi_types.specs.declared.leaf.Leaf.{Leaf}
use Rattle.abi_types.specs.Forms.{is_aggregate, is_leaf}
use Rattle.abi_types.specs.Inside.{Inside, inside_at, count_inside}
use Rattle.abi_types.specs.Leaves.{leaf_of, leaves_inside, leaves_step, leaves_of}
use Rattle.abi_types.specs.Walks.{IsWalk}
use Rattle.abi_types.proofs.LeafLemmas.{leaves_of-step, inside-named}
use Rattle.abi_types.proofs.lemmas.ByValue.{by_value-induction}
use Rattle.abi_types.proofs.lemmas.Kinds.{aggregate-no_leaf}
use Rattle.abi_types.proofs.lemmas.Ranges.{flat_map-range_more}
use Rattle.abi_base.proofs.lemmas.Contained.{in_none, in_one}

in-flat : {A : Type 0} (f : ℕ → List A) (n : ℕ) (y : A) → Contains (flat_map f (range_with_len 0 n)) y → (k : ℕ) × (k < n) × Contains (f k) y
in-flat f zero y c = absurd (in_none y c)
in-flat {A} f (suc n) y c =
    let P : List A → Type 0 = λ xs. Contains xs y in
    elim (Contains-append_cases (flat_map f (range_with_len 0 n)) (f n) y (subst P (flat_map-range_more f n) c)) [
      | inl e ↦ let r = in-flat f n y e in let lt = r.1 in (r.0, omega arith, r.2)
      | inr e ↦ (n, omega arith, e)
    ]

of-flat : {A : Type 0} (f : ℕ → List A) (n k : ℕ) (y : A) → k < n → Contains (f k) y → Contains (flat_map f (range_with_len 0 n)) y
of-flat f zero k y lt c = absurd (omega arith)
of-flat {A} f (suc n) k y lt c =
    let P : List A → Type 0 = λ xs. Contains xs y in
    subst P (sym (flat_map-range_more f n)) (go (k == n) refl (λ lt. of-flat f n k y lt c)) where
      go : (b : Bool) → (k == n) ≡ b → (k < n → Contains (flat_map f (range_with_len 0 n)) y) → Contains (flat_map f (range_with_len 0 n) ++ f n) y
      go true e early = let same : k ≡ n = eqb-true k n e in Contains-append_right (flat_map f (range_with_len 0 n)) (f n) y (subst (λ (j : ℕ). Contains (f j) y) same c)
      go false e early = let ne = eqb-false k n e in Contains-append_left (flat_map f (range_with_len 0 n)) (f n) y (early (omega arith))

pub leaf_from_walk : (nodes : List PlainNode) → IsGraph nodes → (steps : List ℕ) (i bit width : ℕ) (l : Leaf) → IsWalk nodes i bit width steps l → Contains (leaves_of nodes i bit width) l
unfolding IsWalk
leaf_from_walk nodes is [] i bit width l w = rw (leaves_of-step nodes is i bit width, not_zero (view_at nodes i).size w.0, w.1) (0, omega arith, w.2)
leaf_from_walk nodes is (n ∷ steps) i bit width l w =
    let x = w.3.0 in
    let inner = leaf_from_walk nodes is steps x.to (bit + x.bit) x.width l w.3.2 in
    let P : Option Inside → Type 0 = λ o. Contains (leaves_inside (leaves_of nodes) bit o) l in
    let here : P (inside_at nodes (view_at nodes i) n) = subst P (sym w.3.1) inner in
    let all = of-flat (λ k. leaves_inside (leaves_of nodes) bit (inside_at nodes (view_at nodes i) k)) (count_inside (view_at nodes i)) n l w.2 here in
    rw (leaves_of-step nodes is i bit width, not_zero (view_at nodes i).size w.0, aggregate-no_leaf (view_at nodes i).kind w.1, w.1) all

abbrev HasWalks : List PlainNode → ℕ → Type 0
HasWalks nodes i = (bit width : ℕ) (l : Leaf) → Contains (leaves_of nodes i bit width) l → (steps : List ℕ) × IsWalk nodes i bit width steps l

walk-inside : (nodes : List PlainNode) (i n bit width : ℕ) (l : Leaf) (o : Option Inside) → (view_at nodes i).size ≢ 0 → is_aggregate (view_at nodes i).kind ≡ true → n < count_inside (view_at nodes i) → inside_at nodes (view_at nodes i) n ≡ o → ((x : Inside) → o ≡ Some x → HasWalks nodes x.to) → Contains (leaves_inside (leaves_of nodes) bit o) l → (steps : List ℕ) × IsWalk nodes i bit width steps l
unfolding IsWalk
walk-inside nodes i n bit width l None ne whole lt e inner c = absurd (in_none l c)
walk-inside nodes i n bit width l (Some x) ne whole lt e inner c =
    let later = inner x refl (bit + x.bit) x.width l c in
    (n ∷ later.0, (ne, whole, lt, (x, e, later.1)))

walk-step : (nodes : List PlainNode) → IsGraph nodes → (i : ℕ) → ((k to : ℕ) → inner_of (part_at (view_at nodes i) k) ≡ Some to → HasWalks nodes to) → HasWalks nodes i
unfolding IsWalk
walk-step nodes is i inner bit width l c =
    let P : List Leaf → Type 0 = λ xs. Contains xs l in
    go ((view_at nodes i).size == 0) (is_leaf (view_at nodes i).kind) (is_aggregate (view_at nodes i).kind) refl refl refl (subst P (leaves_of-step nodes is i bit width) c) where
      go : (a b d : Bool) → ((view_at nodes i).size == 0) ≡ a → is_leaf (view_at nodes i).kind ≡ b → is_aggregate (view_at nodes i).kind ≡ d → Contains (leaves_step nodes (leaves_of nodes) i bit width) l → (steps : List ℕ) × IsWalk nodes i bit width steps l
      go true b d none leaf whole c = absurd (in_none l (rw none at c))
      go false true d none leaf whole c = ([], (eqb-false (view_at nodes i).size 0 none, leaf, in_one (leaf_of (view_at nodes i) bit width) l (rw (none, leaf) at c)))
      go false false false none leaf whole c = absurd (in_none l (rw (none, leaf, whole) at c))
      go false false true none leaf whole c =
          let found = in-flat (λ k. leaves_inside (leaves_of nodes) bit (inside_at nodes (view_at nodes i) k)) (count_inside (view_at nodes i)) l (rw (none, leaf, whole) at c) in
          walk-inside nodes i found.0 bit width l (inside_at nodes (view_at nodes i) found.0) (eqb-false (view_at nodes i).size 0 none) whole found.1 refl
          (λ x e. inside-named nodes (HasWalks nodes) (view_at nodes i) found.0 x e inner) found.2

pub walk_from_leaf : (nodes : List PlainNode) → IsGraph nodes → (i : ℕ) → HasWalks nodes i
walk_from_leaf nodes is i = by_value-induction (HasWalks nodes) nodes is (walk-step nodes is) i
