-- The alignment of a node is its step.
use Rattle.std.proofs.Common.{◌≡◌, ◌<◌, ◌≤◌, ◌+◌, ℕ, suc, List, [], ◌∷◌, ◌++◌, length, get_or, take, Option, Some, None, refl, ap, arith}
use Rattle.std.proofs.lemmas.List.{take_more, take_all}
use Rattle.std.specs.Prelude.{max, true, false}
use Rattle.abi_types.specs.Types.{PlainPart, PlainView, PlainNode}
use Rattle.abi_types.specs.Graphs.{IsGraph, view_at, part_at, no_part, inner_of}
use Rattle.abi_types.specs.ByValue.{AsksInside}
use Rattle.abi_types.specs.Forms.{is_aggregate}
use Rattle.psabi.specs.Alignment.{natural_align, greatest, named_or, inner_align, own_align, align_step, align_of}
use Rattle.abi_types.proofs.lemmas.ByValue.{by_value-step}

greatest-same : {X : Type 0} (f g : X → ℕ) (xs : List X) (d : X) → ((k : ℕ) → k < length xs → f (get_or xs k d) ≡ g (get_or xs k d)) → greatest f xs ≡ greatest g xs
unfolding greatest
greatest-same f g [] d same = refl
greatest-same f g (x ∷ xs) d same =
    let here : f x ≡ g x = same 0 (omega arith) in
    let later = greatest-same f g xs d (λ k lt. same (suc k) (omega arith)) in
    cc

pub named_or-same : {X : Type 0} (d : X) (f g : ℕ → X) (o : Option ℕ) → ((to : ℕ) → o ≡ Some to → f to ≡ g to) → named_or d f o ≡ named_or d g o
named_or-same d f g None same = refl
named_or-same d f g (Some to) same = same to refl

own_align-inside : (nodes : List PlainNode) (f g : ℕ → ℕ) (i : ℕ) → ((k to : ℕ) → inner_of (part_at (view_at nodes i) k) ≡ Some to → f to ≡ g to) → own_align nodes f i ≡ own_align nodes g i
own_align-inside nodes f g i same =
    let e = greatest-same (inner_align f) (inner_align g) (view_at nodes i).parts no_part (λ k lt. named_or-same 1 f g (inner_of (part_at (view_at nodes i) k)) (same k)) in
    rw e

align_step-inside : (nodes : List PlainNode) → AsksInside nodes (align_step nodes)
align_step-inside nodes f g i same = ap (max (view_at nodes i).align) (own_align-inside nodes f g i same)

pub align_of-step : (nodes : List PlainNode) → IsGraph nodes → (i : ℕ) → align_of nodes i ≡ align_step nodes (align_of nodes) i
unfolding align_of
align_of-step nodes is i = by_value-step 1 (align_step nodes) nodes is (align_step-inside nodes) i

greatest-append_one : {X : Type 0} (f : X → ℕ) (xs : List X) (y : X) → greatest f (xs ++ y ∷ []) ≡ max (greatest f xs) (f y)
unfolding greatest
greatest-append_one f [] y = omega arith
greatest-append_one f (x ∷ xs) y = let e = greatest-append_one f xs y in rw e (omega arith)

pub greatest_more : {X : Type 0} (f : X → ℕ) (xs : List X) (i : ℕ) (d : X) → i < length xs → greatest f (take (i + 1) xs) ≡ max (greatest f (take i xs)) (f (get_or xs i d))
greatest_more f xs i d lt = rw (take_more xs i d lt) (greatest-append_one f (take i xs) (get_or xs i d))

pub greatest_whole : {X : Type 0} (f : X → ℕ) (xs : List X) (k : ℕ) → length xs ≤ k → greatest f (take k xs) ≡ greatest f xs
greatest_whole f xs k past = ap (greatest f) (take_all k xs past)

pub greatest_none : {X : Type 0} (f : X → ℕ) (xs : List X) → greatest f (take 0 xs) ≡ 1
unfolding greatest
greatest_none f [] = refl
greatest_none f (x ∷ xs) = refl

pub greatest_one : {X : Type 0} (f : X → ℕ) (xs : List X) → 1 ≤ greatest f xs
unfolding greatest
greatest_one f [] = omega arith
greatest_one f (x ∷ xs) = let e = greatest_one f xs in omega arith

pub align-part : (nodes : List PlainNode) (p : PlainPart) (o : Option ℕ) → inner_of p ≡ o → inner_align (align_of nodes) p ≡ named_or 1 (align_of nodes) o
align-part nodes p o e = ap (named_or 1 (align_of nodes)) e

pub align_of-alone : (nodes : List PlainNode) → IsGraph nodes → (i r : ℕ) (v : PlainView) → v ≡ view_at nodes i → is_aggregate v.kind ≡ false → r ≡ max (natural_align v.kind v.group v.size) v.align → r ≡ align_of nodes i
align_of-alone nodes is i r v same alone e =
    let kinds : is_aggregate (view_at nodes i).kind ≡ false = rw (← same) alone in
    let own : own_align nodes (align_of nodes) i ≡ natural_align (view_at nodes i).kind (view_at nodes i).group (view_at nodes i).size = rw kinds refl in
    rw (align_of-step nodes is i, own, ← same) (omega arith)

pub align_of-whole : (nodes : List PlainNode) → IsGraph nodes → (i r k m : ℕ) (v : PlainView) → v ≡ view_at nodes i → is_aggregate v.kind ≡ true → length v.parts ≤ k → m ≡ greatest (inner_align (align_of nodes)) (take k v.parts) → r ≡ max m v.align → r ≡ align_of nodes i
align_of-whole nodes is i r k m v same whole past e last =
    let kinds : is_aggregate (view_at nodes i).kind ≡ true = rw (← same) whole in
    let own : own_align nodes (align_of nodes) i ≡ greatest (inner_align (align_of nodes)) (view_at nodes i).parts = rw kinds refl in
    let all = greatest_whole (inner_align (align_of nodes)) v.parts k past in
    rw (align_of-step nodes is i, own, ← same) (omega arith)

pub greatest-part_some : (nodes : List PlainNode) (v : PlainView) (k to so_far inner more : ℕ) → k < length v.parts → inner_of (part_at v k) ≡ Some to → so_far ≡ greatest (inner_align (align_of nodes)) (take k v.parts) → inner ≡ align_of nodes to → more ≡ max inner so_far → more ≡ greatest (inner_align (align_of nodes)) (take (k + 1) v.parts)
greatest-part_some nodes v k to so_far inner more lt named is e next =
    let step = greatest_more (inner_align (align_of nodes)) v.parts k no_part lt in
    let holds : inner_align (align_of nodes) (part_at v k) ≡ align_of nodes to = align-part nodes (part_at v k) (Some to) named in
    omega (arith, step, holds)

pub greatest-part_none : (nodes : List PlainNode) (v : PlainView) (k so_far : ℕ) → k < length v.parts → inner_of (part_at v k) ≡ None → so_far ≡ greatest (inner_align (align_of nodes)) (take k v.parts) → so_far ≡ greatest (inner_align (align_of nodes)) (take (k + 1) v.parts)
greatest-part_none nodes v k so_far lt named is =
    let step = greatest_more (inner_align (align_of nodes)) v.parts k no_part lt in
    let holds : inner_align (align_of nodes) (part_at v k) ≡ 1 = align-part nodes (part_at v k) None named in
    let one = greatest_one (inner_align (align_of nodes)) (take k v.parts) in
    omega (arith, step, holds)
