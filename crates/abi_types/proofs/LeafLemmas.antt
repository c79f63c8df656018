-- The leaves of a node are its step.
use Rattle.std.proofs.Common.{◌≡◌, ◌≢◌, ◌+◌, ℕ, zero, suc, List, [], ◌∷◌, ◌++◌, Option, Some, None, refl, ap, subst, arith}
use Rattle.std.specs.Prelude.{Bool, true, false}
use Rattle.std.specs.List.{range_with_len}
use Rattle.abi_base.proofs.lemmas.Lists.{flat_map-same, same_functions}
use Rattle.abi_types.specs.Types.{PlainPart, Member, Enumerator, Target, Element, Outcome, Param, PlainView, PlainNode}
use Rattle.abi_types.specs.Forms.{is_array}
use Rattle.abi_types.specs.Graphs.{IsGraph, view_at, part_at, inner_of}
use Rattle.abi_types.specs.declared.leaf.Leaf.{Leaf}
use Rattle.abi_types.specs.ByValue.{AsksInside}
use Rattle.abi_types.specs.Inside.{Inside, member_inside, element_inside, inside_at, count_inside}
use Rattle.abi_types.specs.Leaves.{leaves_inside, leaves_step, no_leaves, leaves_of}
use Rattle.abi_types.proofs.lemmas.Kinds.{same_Some_Inside}
use Rattle.abi_types.proofs.lemmas.ByValue.{by_value-step}

-- what stands inside is what a part names by value
element-named : (nodes : List PlainNode) (P : ℕ → Type 0) (o : Option ℕ) (n : ℕ) (x : Inside) → element_inside nodes o n ≡ Some x → ((to : ℕ) → o ≡ Some to → P to) → P x.to
element-named nodes P None n x e holds = cc
element-named nodes P (Some to) n x e holds = let same : to ≡ x.to = ap (λ (y : Inside). y.to) (same_Some_Inside _ _ e) in subst P same (holds to refl)

member-named : (P : ℕ → Type 0) (p : PlainPart) (x : Inside) → member_inside p ≡ Some x → ((to : ℕ) → inner_of p ≡ Some to → P to) → P x.to
member-named P (Member name bit width to) x e holds = let same : to ≡ x.to = ap (λ (y : Inside). y.to) (same_Some_Inside _ _ e) in subst P same (holds to refl)
member-named P (Enumerator name value) x e holds = cc
member-named P (Target at) x e holds = cc
member-named P (Element at) x e holds = cc
member-named P (Outcome at) x e holds = cc
member-named P (Param at) x e holds = cc

pub inside-named : (nodes : List PlainNode) (P : ℕ → Type 0) (v : PlainView) (n : ℕ) (x : Inside) → inside_at nodes v n ≡ Some x → ((k to : ℕ) → inner_of (part_at v k) ≡ Some to → P to) → P x.to
inside-named nodes P v n x e holds = go (is_array v.kind) refl e where
  go : (b : Bool) → is_array v.kind ≡ b → inside_at nodes v n ≡ Some x → P x.to
  go true is f = element-named nodes P (inner_of (part_at v 0)) n x (rw is at f) (holds 0)
  go false is f = member-named P (part_at v n) x (rw is at f) (holds n)

leaves_inside-same : (f g : ℕ → ℕ → ℕ → List Leaf) (bit : ℕ) (o : Option Inside) → ((x : Inside) → o ≡ Some x → f x.to ≡ g x.to) → leaves_inside f bit o ≡ leaves_inside g bit o
leaves_inside-same f g bit None same = refl
leaves_inside-same f g bit (Some x) same = ap (λ (h : ℕ → ℕ → List Leaf). h (bit + x.bit) x.width) (same x refl)

leaves_step-inside : (nodes : List PlainNode) → AsksInside nodes (leaves_step nodes)
leaves_step-inside nodes f g i same = same_functions (leaves_step nodes f i) (leaves_step nodes g i)
    (λ bit width.
    let v = view_at nodes i in
    let e = flat_map-same (λ k. leaves_inside f bit (inside_at nodes v k)) (λ k. leaves_inside g bit (inside_at nodes v k)) (range_with_len 0 (count_inside v))
    (λ k. leaves_inside-same f g bit (inside_at nodes v k) (λ x is. inside-named nodes (λ to. f to ≡ g to) v k x is same)) in
    rw e refl)

pub leaves_of-step : (nodes : List PlainNode) → IsGraph nodes → (i bit width : ℕ) → leaves_of nodes i bit width ≡ leaves_step nodes (leaves_of nodes) i bit width
unfolding leaves_of
leaves_of-step nodes is i bit width = ap (λ (h : ℕ → ℕ → List Leaf). h bit width) (by_value-step no_leaves (leaves_step nodes) nodes is (leaves_step-inside nodes) i)
