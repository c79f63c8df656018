-- The leaves of a node are its step.
use Rattle.std.proofs.Common.{◌≡◌, ◌<◌, ◌≤◌, ◌+◌, ◌*◌, ◌∙◌, ℕ, List, [], ◌∷◌, ◌++◌, length, get_or, Option, Some, None, ◌≢◌, refl, ap, subst, append-nil, arith}
use Rattle.std.specs.Prelude.{Bool, true, false, ◌==◌, nat_lt}
use Rattle.std.specs.List.{flat_map, list_any, range_with_len}
use Rattle.std.proofs.lemmas.List.Concat.{flat_map-append}
use Rattle.abi_types.specs.declared.kind.Kind.TheVariants as kind
use Rattle.abi_types.specs.declared.leaf.Leaf.{Leaf}
use Rattle.abi_types.specs.Types.{PlainPart, Member, Enumerator, Target, Element, Outcome, Param, PlainView, PlainNode}
use Rattle.abi_types.specs.declared.kind.Kind.{Kind}
use Rattle.abi_types.specs.Forms.{HasForm, is_one_element, is_aggregate, is_leaf, is_array}
use Rattle.abi_types.specs.Graphs.{IsGraph, view_at, part_at, no_part, inner_of}
use Rattle.psabi.specs.declared.eightbytes.Eightbytes.{Eightbytes}
use Rattle.psabi.specs.Merging.{MergesLeaves}
use Rattle.psabi.proofs.Merges.{MergesLeaves-none, MergesLeaves-append}
use Rattle.std.proofs.lemmas.List.Folds.{list_any_at}
use Rattle.std.proofs.lemmas.Bool.{ltb-false}
use Rattle.abi_base.proofs.lemmas.Ranges.{range_more_to}
use Rattle.abi_base.proofs.lemmas.Orders.{not_zero}
use Rattle.abi_base.proofs.lemmas.Bools.{or_is_false, or_true}
use Rattle.psabi.proofs.Named.{to_from_inner}
use Rattle.psabi.proofs.PastLemmas.{ends_past-step, element-room}
use Rattle.abi_types.specs.Inside.{Inside, member_inside, element_inside, inside_at, count_inside}
use Rattle.abi_types.specs.Leaves.{leaf_of, leaves_inside, leaves_of_all, leaves_of, LeavesAreThoseInside}
use Rattle.psabi.specs.Past.{extent, ends_past, part_past}
use Rattle.abi_types.proofs.lemmas.Kinds.{same_Some_Inside}

leaves_of_all-more : (nodes : List PlainNode) (f : ℕ → ℕ → ℕ → List Leaf) (v : PlainView) (bit n : ℕ) → leaves_of_all nodes f v bit (n + 1) ≡ leaves_of_all nodes f v bit n ++ leaves_inside f bit (inside_at nodes v n)
leaves_of_all-more nodes f v bit n =
    let F = λ (k : ℕ). leaves_inside f bit (inside_at nodes v k) in
    ap (flat_map F) (range_more_to 0 n n (omega arith)) ∙ flat_map-append F (range_with_len 0 n) (n ∷ []) ∙ ap (λ (xs : List Leaf). flat_map F (range_with_len 0 n) ++ xs) (append-nil (F n))

-- ---- what is merged on the way

pub merges-zero : LeavesAreThoseInside → (nodes : List PlainNode) → IsGraph nodes → (i bit width : ℕ) (s : Eightbytes) → (view_at nodes i).size ≡ 0 → MergesLeaves (leaves_of nodes i bit width) s s
merges-zero steps nodes is i bit width s e = rw (steps nodes is i bit width, e) (MergesLeaves-none s)

pub merges-leaf : LeavesAreThoseInside → (nodes : List PlainNode) → IsGraph nodes → (i bit width : ℕ) (a b : Eightbytes) → (view_at nodes i).size ≢ 0 → is_leaf (view_at nodes i).kind ≡ true → MergesLeaves (leaf_of (view_at nodes i) bit width ∷ []) a b → MergesLeaves (leaves_of nodes i bit width) a b
merges-leaf steps nodes is i bit width a b ne leaf e = rw (steps nodes is i bit width, not_zero (view_at nodes i).size ne, leaf) e

pub merges-whole : LeavesAreThoseInside → (nodes : List PlainNode) → IsGraph nodes → (i bit width n : ℕ) (a b : Eightbytes) → (view_at nodes i).size ≢ 0 → is_leaf (view_at nodes i).kind ≡ false → is_aggregate (view_at nodes i).kind ≡ true → n ≡ count_inside (view_at nodes i) → MergesLeaves (leaves_of_all nodes (leaves_of nodes) (view_at nodes i) bit n) a b → MergesLeaves (leaves_of nodes i bit width) a b
merges-whole steps nodes is i bit width n a b ne leaf whole all e = rw (steps nodes is i bit width, not_zero (view_at nodes i).size ne, leaf, whole, ← all) e

pub merges-more : (nodes : List PlainNode) (v : PlainView) (bit n : ℕ) (x : Inside) (a b c : Eightbytes) → inside_at nodes v n ≡ Some x → MergesLeaves (leaves_of_all nodes (leaves_of nodes) v bit n) a b → MergesLeaves (leaves_of nodes x.to (bit + x.bit) x.width) b c → MergesLeaves (leaves_of_all nodes (leaves_of nodes) v bit (n + 1)) a c
merges-more nodes v bit n x a b c e f g = rw (leaves_of_all-more nodes (leaves_of nodes) v bit n, e) (MergesLeaves-append _ _ a b c f g)

pub merges-skip : (nodes : List PlainNode) (v : PlainView) (bit n : ℕ) (a b : Eightbytes) → inside_at nodes v n ≡ None → MergesLeaves (leaves_of_all nodes (leaves_of nodes) v bit n) a b → MergesLeaves (leaves_of_all nodes (leaves_of nodes) v bit (n + 1)) a b
merges-skip nodes v bit n a b e f = rw (leaves_of_all-more nodes (leaves_of nodes) v bit n, e) (MergesLeaves-append _ _ a b b f (MergesLeaves-none b))

-- ---- what stands inside where nothing ends past

list_any-none : {X : Type 0} (p : X → Bool) (xs : List X) (k : ℕ) (d : X) → k < length xs → list_any p xs ≡ false → p (get_or xs k d) ≡ false
list_any-none p xs k d lt e = go (p (get_or xs k d)) refl where
  go : (b : Bool) → p (get_or xs k d) ≡ b → p (get_or xs k d) ≡ false
  go true is = let any = list_any_at p xs k d lt is in cc
  go false is = is

part-kept : (nodes : List PlainNode) → IsGraph nodes → (i k : ℕ) → is_aggregate (view_at nodes i).kind ≡ true → ends_past nodes i ≡ false → k < length (view_at nodes i).parts → part_past nodes (ends_past nodes) (view_at nodes i) (part_at (view_at nodes i) k) ≡ false
part-kept nodes is i k whole kept lt =
    let step = ends_past-step nodes is i in
    let none : list_any (part_past nodes (ends_past nodes) (view_at nodes i)) (view_at nodes i).parts ≡ false = rw (step, whole) at kept in
    list_any-none (part_past nodes (ends_past nodes) (view_at nodes i)) (view_at nodes i).parts k no_part lt none

pub record IsKept (nodes : List PlainNode) (size : ℕ) (x : Inside) : Type 0 where
  pub kept : ends_past nodes x.to ≡ false
  pub room : x.bit + extent nodes x.width x.to ≤ 8 * size

member-kept : (nodes : List PlainNode) (v : PlainView) (p : PlainPart) (x : Inside) → member_inside p ≡ Some x → part_past nodes (ends_past nodes) v p ≡ false → IsKept nodes v.size x
member-kept nodes v (Member name bit width to) x e past =
    let same = same_Some_Inside _ _ e in
    let both = or_is_false (nat_lt (8 * v.size) (bit + extent nodes width to)) (ends_past nodes to) past in
    subst (IsKept nodes v.size) same (record { kept = both.1; room = ltb-false (8 * v.size) (bit + extent nodes width to) both.0 })
member-kept nodes v (Enumerator name value) x e past = cc
member-kept nodes v (Target at) x e past = cc
member-kept nodes v (Element at) x e past = cc
member-kept nodes v (Outcome at) x e past = cc
member-kept nodes v (Param at) x e past = cc

one_element-is : (parts : List PlainPart) (to : ℕ) → is_one_element parts ≡ true → inner_of (get_or parts 0 no_part) ≡ Some to → get_or parts 0 no_part ≡ Element to
one_element-is [] to one e = cc
one_element-is (Element at ∷ []) to one e = let same : at ≡ to = cc in ap Element same
one_element-is (Element at ∷ q ∷ parts) to one e = cc
one_element-is (Member name bit width at ∷ parts) to one e = cc
one_element-is (Enumerator name value ∷ parts) to one e = cc
one_element-is (Target at ∷ parts) to one e = cc
one_element-is (Outcome at ∷ parts) to one e = cc
one_element-is (Param at ∷ parts) to one e = cc

one_element-some : (parts : List PlainPart) → is_one_element parts ≡ true → 0 < length parts
one_element-some [] one = cc
one_element-some (p ∷ parts) one = omega arith

array-kind : (k : Kind) → is_array k ≡ true → k ≡ kind.Array
array-kind kind.Array e = refl
array-kind kind.Void e = cc
array-kind kind.Scalar e = cc
array-kind kind.Pointer e = cc
array-kind kind.Enumeration e = cc
array-kind kind.Structure e = cc
array-kind kind.Union e = cc
array-kind kind.Vector e = cc
array-kind kind.Function e = cc

one-from-form : (v : PlainView) → HasForm v → v.kind ≡ kind.Array → is_one_element v.parts ≡ true
one-from-form v form array = rw array at form.parts

element-led : (nodes : List PlainNode) (v : PlainView) (to n : ℕ) → n < v.count → part_at v 0 ≡ Element to → part_past nodes (ends_past nodes) v (part_at v 0) ≡ false → ends_past nodes to ≡ false
element-led nodes v to n lt element past =
    let P : PlainPart → Type 0 = λ p. part_past nodes (ends_past nodes) v p ≡ false in
    let held : part_past nodes (ends_past nodes) v (Element to) ≡ false = subst P element past in
    let ne : v.count ≢ 0 = omega arith in
    rw (not_zero v.count ne) at held

element-kept : (nodes : List PlainNode) → IsGraph nodes → (i n : ℕ) (x : Inside) (o : Option ℕ) → (view_at nodes i).kind ≡ kind.Array → n < (view_at nodes i).count → inner_of (part_at (view_at nodes i) 0) ≡ o → element_inside nodes o n ≡ Some x → part_past nodes (ends_past nodes) (view_at nodes i) (part_at (view_at nodes i) 0) ≡ false → IsKept nodes (view_at nodes i).size x
element-kept nodes is i n x None array lt named e past = cc
element-kept nodes is i n x (Some to) array lt named e past =
    let same = same_Some_Inside _ _ e in
    let v = view_at nodes i in
    let room = element-room nodes is i n to array (to_from_inner _ _ named) lt in
    let element = one_element-is v.parts to (one-from-form v (is.forms i) array) named in
    let kept = element-led nodes v to n lt element past in
    subst (IsKept nodes v.size) same (record { kept = kept; room = omega (arith, room) })

-- what stands inside keeps inside too, and ends inside
pub inside-kept : (nodes : List PlainNode) → IsGraph nodes → (i n : ℕ) (x : Inside) → is_aggregate (view_at nodes i).kind ≡ true → ends_past nodes i ≡ false → n < count_inside (view_at nodes i) → inside_at nodes (view_at nodes i) n ≡ Some x → IsKept nodes (view_at nodes i).size x
inside-kept nodes is i n x whole kept lt e = go (is_array (view_at nodes i).kind) refl lt e where
  go : (b : Bool) → is_array (view_at nodes i).kind ≡ b → n < count_inside (view_at nodes i) → inside_at nodes (view_at nodes i) n ≡ Some x → IsKept nodes (view_at nodes i).size x
  go true array lt e =
      let array_kind = array-kind (view_at nodes i).kind array in
      let some = one_element-some (view_at nodes i).parts (one-from-form (view_at nodes i) (is.forms i) array_kind) in
      element-kept nodes is i n x (inner_of (part_at (view_at nodes i) 0)) array_kind (rw array at lt) refl (rw array at e) (part-kept nodes is i 0 whole kept some)
  go false array lt e = member-kept nodes (view_at nodes i) (part_at (view_at nodes i) n) x (rw array at e) (part-kept nodes is i n whole kept (rw array at lt))

-- an aggregate takes all its bytes, whatever its width
pub extent-whole : (nodes : List PlainNode) (width i : ℕ) → is_aggregate (view_at nodes i).kind ≡ true → extent nodes width i ≡ 8 * (view_at nodes i).size
extent-whole nodes width i whole = rw (whole, or_true (width == 0)) refl
