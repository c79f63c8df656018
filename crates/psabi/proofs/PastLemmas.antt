-- What stands inside objects.
use Rattle.std.proofs.Common.{◌≡◌, ◌<◌, ◌≤◌, ◌+◌, ◌*◌, ◌^◌, ℕ, suc, List, [], ◌∷◌, length, get_or, take, Some, None, refl, ap, arith}
use Rattle.std.specs.Prelude.{Bool, true, false, ◌||◌, ◌&&◌, ◌==◌}
use Rattle.std.specs.List.{list_any}
use Rattle.std.proofs.lemmas.List.{take_all}
use Rattle.std.proofs.lemmas.List.Folds.{list_any_more, list_any_at}
use Rattle.std.proofs.Math.Nat.{mul-le-mul_left}
use Rattle.abi_base.proofs.lemmas.Bools.{and_false}
use Rattle.abi_types.specs.declared.kind.Kind.TheVariants as kind
use Rattle.abi_types.specs.Types.{PlainPart, Member, Enumerator, Target, Element, Outcome, Param, PlainView, PlainNode}
use Rattle.abi_types.specs.Forms.{has_elements, is_aggregate}
use Rattle.abi_types.specs.Graphs.{IsGraph, view_at, part_at, no_part, to_of, inner_of}
use Rattle.abi_types.specs.ByValue.{AsksInside}
use Rattle.psabi.specs.Past.{own_past, led_to, part_past, past_step, ends_past}
use Rattle.psabi.proofs.AlignLemmas.{named_or-same}
use Rattle.abi_types.proofs.lemmas.ByValue.{by_value-step}

-- ---- elements

-- an element ends inside its array
pub element-room : (nodes : List PlainNode) → IsGraph nodes → (i n to : ℕ) → (view_at nodes i).kind ≡ kind.Array → to_of (part_at (view_at nodes i) 0) ≡ Some to → n < (view_at nodes i).count → n * (view_at nodes to).size + (view_at nodes to).size ≤ (view_at nodes i).size
element-room nodes is i n to array named lt =
    let holds : has_elements (view_at nodes i).kind ≡ true = rw array refl in
    let size = is.whole i to holds named in
    let le : n + 1 ≤ (view_at nodes i).count = omega arith in
    omega (arith, size, mul-le-mul_left (view_at nodes to).size le)

pub element-fits : (nodes : List PlainNode) → IsGraph nodes → (i n to : ℕ) → (view_at nodes i).kind ≡ kind.Array → to_of (part_at (view_at nodes i) 0) ≡ Some to → n < (view_at nodes i).count → n * (view_at nodes to).size ≤ 2 ^ 60
element-fits nodes is i n to array named lt =
    let room = element-room nodes is i n to array named lt in
    let bound = (is.limits i).size in
    omega arith

-- ---- ends past

list_any-same : {X : Type 0} (p q : X → Bool) (xs : List X) (d : X) → ((k : ℕ) → k < length xs → p (get_or xs k d) ≡ q (get_or xs k d)) → list_any p xs ≡ list_any q xs
list_any-same p q [] d same = refl
list_any-same p q (x ∷ xs) d same =
    let here : p x ≡ q x = same 0 (omega arith) in
    let later = list_any-same p q xs d (λ k lt. same (suc k) (omega arith)) in
    rw (here, later) refl

inner_from_led : (v : PlainView) (p : PlainPart) (to : ℕ) → led_to v p ≡ Some to → inner_of p ≡ Some to
inner_from_led v (Member name bit width at) to e = e
inner_from_led v (Enumerator name value) to e = cc
inner_from_led v (Target at) to e = cc
inner_from_led v (Element at) to e = go (v.count == 0) refl e where
  go : (b : Bool) → (v.count == 0) ≡ b → led_to v (Element at) ≡ Some to → inner_of (Element at) ≡ Some to
  go true is f = cc (rw is at f)
  go false is f = rw is at f
inner_from_led v (Outcome at) to e = cc
inner_from_led v (Param at) to e = cc

past_step-inside : (nodes : List PlainNode) → AsksInside nodes (past_step nodes)
past_step-inside nodes f g i same =
    let v = view_at nodes i in
    ap (λ (b : Bool). is_aggregate v.kind && b)
    (list_any-same (part_past nodes f v) (part_past nodes g v) v.parts no_part
    (λ k lt. ap (λ (b : Bool). own_past nodes v (part_at v k) || b)
    (named_or-same false f g (led_to v (part_at v k)) (λ to e. same k to (inner_from_led v (part_at v k) to e)))))

pub ends_past-step : (nodes : List PlainNode) → IsGraph nodes → (i : ℕ) → ends_past nodes i ≡ past_step nodes (ends_past nodes) i
unfolding ends_past
ends_past-step nodes is i = by_value-step false (past_step nodes) nodes is (past_step-inside nodes) i

pub inner_of-led : (nodes : List PlainNode) (v : PlainView) (k to : ℕ) → led_to v (part_at v k) ≡ Some to → inner_of (part_at v k) ≡ Some to
inner_of-led nodes v k to e = inner_from_led v (part_at v k) to e

pub past-part : (nodes : List PlainNode) → IsGraph nodes → (i k : ℕ) → is_aggregate (view_at nodes i).kind ≡ true → k < length (view_at nodes i).parts → part_past nodes (ends_past nodes) (view_at nodes i) (part_at (view_at nodes i) k) ≡ true → ends_past nodes i ≡ true
past-part nodes is i k whole lt e =
    let any = list_any_at (part_past nodes (ends_past nodes) (view_at nodes i)) (view_at nodes i).parts k no_part lt e in
    rw (ends_past-step nodes is i, whole) any

pub past-alone : (nodes : List PlainNode) → IsGraph nodes → (i : ℕ) → is_aggregate (view_at nodes i).kind ≡ false → ends_past nodes i ≡ false
past-alone nodes is i alone = rw (ends_past-step nodes is i, alone) refl

pub past-none : (nodes : List PlainNode) → IsGraph nodes → (i k : ℕ) → length (view_at nodes i).parts ≤ k → list_any (part_past nodes (ends_past nodes) (view_at nodes i)) (take k (view_at nodes i).parts) ≡ false → ends_past nodes i ≡ false
past-none nodes is i k past e =
    let all = take_all k (view_at nodes i).parts past in
    let none : list_any (part_past nodes (ends_past nodes) (view_at nodes i)) (view_at nodes i).parts ≡ false = rw (← all) e in
    rw (ends_past-step nodes is i, none) (and_false (is_aggregate (view_at nodes i).kind))

-- one more part
pub past-more : (nodes : List PlainNode) (v : PlainView) (k : ℕ) → k < length v.parts → list_any (part_past nodes (ends_past nodes) v) (take k v.parts) ≡ false → part_past nodes (ends_past nodes) v (part_at v k) ≡ false → list_any (part_past nodes (ends_past nodes) v) (take (k + 1) v.parts) ≡ false
past-more nodes v k lt so_far e = rw (list_any_more (part_past nodes (ends_past nodes) v) v.parts k no_part lt, so_far) e

pub part_past-led : (nodes : List PlainNode) (v : PlainView) (p : PlainPart) (to : ℕ) (b : Bool) → own_past nodes v p ≡ false → led_to v p ≡ Some to → ends_past nodes to ≡ b → part_past nodes (ends_past nodes) v p ≡ b
part_past-led nodes v p to b own led e = rw (own, led) e

pub part_past-own : (nodes : List PlainNode) (v : PlainView) (p : PlainPart) → own_past nodes v p ≡ true → part_past nodes (ends_past nodes) v p ≡ true
part_past-own nodes v p own = rw own refl

pub part_past-none : (nodes : List PlainNode) (v : PlainView) (p : PlainPart) → own_past nodes v p ≡ false → led_to v p ≡ None → part_past nodes (ends_past nodes) v p ≡ false
part_past-none nodes v p own led = rw (own, led) refl
