-- Calls do not change with the places of calls that nodes hold.
use Rattle.std.proofs.Common.{◌≡◌, ◌<◌, ◌≤◌, ◌∙◌, ℕ, List, [], ◌∷◌, length, map, Option, Some, None, refl, ap, arith, inl, inr}
use Rattle.std.specs.Prelude.{Bool, true, false}
use Rattle.std.specs.List.{fold, list_any, range_with_len}
use Rattle.std.proofs.lemmas.Bool.{cases_lt}
use Rattle.std.proofs.lemmas.List.{get_or_past}
use Rattle.std.proofs.lemmas.List.FromFn.{get_or-map-range_with_len}
use Rattle.abi_base.proofs.lemmas.Lists.{flat_map-same, same_functions}
use Rattle.abi_types.specs.declared.leaf.Leaf.{Leaf}
use Rattle.abi_types.specs.declared.place.Place.TheVariants as place
use Rattle.abi_types.specs.declared.place.CallShape.{CallShape}
use Rattle.abi_types.specs.Types.{PlainPart, Member, Enumerator, Target, Element, Outcome, Param, PlainNode}
use Rattle.abi_types.specs.Calls.{IsSameButCall}
use Rattle.abi_types.specs.Forms.{is_function, no_call}
use Rattle.abi_types.specs.Graphs.{IsGraph, node_at, view_at, part_at, void_node, call_at, shaped_node, shaped, to_of, inner_of, params_of}
use Rattle.abi_types.specs.Inside.{element_inside, inside_at, count_inside}
use Rattle.abi_types.specs.Leaves.{leaves_inside, leaves_step, no_leaves, leaves_of}
use Rattle.psabi.proofs.Recursion.{by_value-same}
use Rattle.psabi.specs.declared.class.Class.TheVariants.{NoClass}
use Rattle.psabi.specs.declared.argument_registers.ArgumentRegisters.{ArgumentRegisters}
use Rattle.psabi.specs.Alignment.{align_step, align_of, named_or}
use Rattle.psabi.specs.Past.{part_past, past_step, ends_past}
use Rattle.psabi.specs.Merging.{merge_leaf}
use Rattle.psabi.specs.Classes.{merged_at, merged, in_memory, classes_of}
use Rattle.psabi.specs.Psabi.{eightbyte_limit}
use Rattle.psabi.specs.Arguments.{place_of_node, taken_with_node, places}
use Rattle.psabi.specs.Results.{result_of_node, outcome_of, registers_of_result}
use Rattle.psabi.specs.Calls.{call_of, calls_of}
use Rattle.psabi.proofs.CallLemmas.{call-none}
use Rattle.abi_types.proofs.lemmas.Shaped.{node_at-shaped}

list_any-same : {X : Type 0} (p q : X → Bool) (xs : List X) → ((x : X) → p x ≡ q x) → list_any p xs ≡ list_any q xs
list_any-same p q [] same = refl
list_any-same p q (x ∷ xs) same = let later = list_any-same p q xs same in rw (same x, later) refl

module _ (nodes others : List PlainNode) (same : (i : ℕ) → IsSameButCall (node_at nodes i) (node_at others i)) where
  rank-same : (i : ℕ) → (node_at others i).rank ≡ (node_at nodes i).rank
  rank-same i = ap (λ (n : PlainNode). n.rank) (same i)

  kind-same : (i : ℕ) → (view_at others i).kind ≡ (view_at nodes i).kind
  kind-same i = ap (λ (n : PlainNode). n.view.kind) (same i)

  group-same : (i : ℕ) → (view_at others i).group ≡ (view_at nodes i).group
  group-same i = ap (λ (n : PlainNode). n.view.group) (same i)

  size-same : (i : ℕ) → (view_at others i).size ≡ (view_at nodes i).size
  size-same i = ap (λ (n : PlainNode). n.view.size) (same i)

  explicit-same : (i : ℕ) → (view_at others i).align ≡ (view_at nodes i).align
  explicit-same i = ap (λ (n : PlainNode). n.view.align) (same i)

  count-same : (i : ℕ) → (view_at others i).count ≡ (view_at nodes i).count
  count-same i = ap (λ (n : PlainNode). n.view.count) (same i)

  parts-same : (i : ℕ) → (view_at others i).parts ≡ (view_at nodes i).parts
  parts-same i = ap (λ (n : PlainNode). n.view.parts) (same i)

  -- ---- alignments

  align_step-same : (f : ℕ → ℕ) (i : ℕ) → align_step others f i ≡ align_step nodes f i
  align_step-same f i = rw (explicit-same i, kind-same i, group-same i, size-same i, parts-same i) refl

  align-same : (i : ℕ) → align_of others i ≡ align_of nodes i
  unfolding align_of
  align-same i = by_value-same 1 (align_step others) (align_step nodes) others nodes rank-same align_step-same i

  -- ---- leaves

  element-same : (o : Option ℕ) (n : ℕ) → element_inside others o n ≡ element_inside nodes o n
  element-same None n = refl
  element-same (Some to) n = rw (size-same to) refl

  inside-same : (i n : ℕ) → inside_at others (view_at others i) n ≡ inside_at nodes (view_at nodes i) n
  inside-same i n = rw (kind-same i, parts-same i, element-same (inner_of (part_at (view_at nodes i) 0)) n) refl

  count_inside-same : (i : ℕ) → count_inside (view_at others i) ≡ count_inside (view_at nodes i)
  count_inside-same i = rw (kind-same i, count-same i, parts-same i) refl

  leaves_step-same : (f : ℕ → ℕ → ℕ → List Leaf) (i : ℕ) → leaves_step others f i ≡ leaves_step nodes f i
  leaves_step-same f i = same_functions (leaves_step others f i) (leaves_step nodes f i)
      (λ bit width.
      let all = flat_map-same (λ k. leaves_inside f bit (inside_at others (view_at others i) k)) (λ k. leaves_inside f bit (inside_at nodes (view_at nodes i) k)) (range_with_len 0 (count_inside (view_at others i)))
      (λ k. ap (leaves_inside f bit) (inside-same i k)) in
      rw (all, count_inside-same i, size-same i, kind-same i, group-same i) refl)

  leaves-same : (i : ℕ) → leaves_of others i 0 0 ≡ leaves_of nodes i 0 0
  unfolding leaves_of
  leaves-same i = ap (λ (h : ℕ → ℕ → List Leaf). h 0 0) (by_value-same no_leaves (leaves_step others) (leaves_step nodes) others nodes rank-same leaves_step-same i)

  -- ---- members that end past

  part_past-same : (f : ℕ → Bool) (i : ℕ) (p : PlainPart) → part_past others f (view_at others i) p ≡ part_past nodes f (view_at nodes i) p
  part_past-same f i (Member name bit width to) = rw (size-same i, kind-same to, size-same to) refl
  part_past-same f i (Element to) = rw (count-same i) refl
  part_past-same f i (Enumerator name value) = refl
  part_past-same f i (Target to) = refl
  part_past-same f i (Outcome to) = refl
  part_past-same f i (Param to) = refl

  past_step-same : (f : ℕ → Bool) (i : ℕ) → past_step others f i ≡ past_step nodes f i
  past_step-same f i =
      let all = list_any-same (part_past others f (view_at others i)) (part_past nodes f (view_at nodes i)) (view_at others i).parts (part_past-same f i) in
      rw (all, kind-same i, parts-same i) refl

  past-same : (i : ℕ) → ends_past others i ≡ ends_past nodes i
  unfolding ends_past
  past-same i = by_value-same false (past_step others) (past_step nodes) others nodes rank-same past_step-same i

  -- ---- classes

  merged-same : (i : ℕ) → merged others i ≡ merged nodes i
  unfolding merged merged_at
  merged-same i = ap (λ (leaves : List Leaf). map (λ k. fold (merge_leaf k) NoClass leaves) (range_with_len 0 eightbyte_limit)) (leaves-same i)

  in_memory-same : (i : ℕ) → in_memory others i ≡ in_memory nodes i
  unfolding in_memory
  in_memory-same i = rw (size-same i, past-same i, leaves-same i) refl

  classes-same : (i : ℕ) → classes_of others i ≡ classes_of nodes i
  unfolding classes_of
  classes-same i = rw (kind-same i, group-same i, size-same i, in_memory-same i, merged-same i) refl

  -- ---- places

  place-same : (t : ArgumentRegisters) (i : ℕ) → place_of_node others t i ≡ place_of_node nodes t i
  place-same t i = rw (size-same i, align-same i, classes-same i) refl

  taken-same : (t : ArgumentRegisters) (i : ℕ) → taken_with_node others t i ≡ taken_with_node nodes t i
  taken-same t i = rw (size-same i, align-same i, classes-same i) refl

  places-same : (t : ArgumentRegisters) (params : List ℕ) → places others t params ≡ places nodes t params
  unfolding places
  places-same t [] = refl
  places-same t (i ∷ params) = rw (place-same t i, taken-same t i, places-same (taken_with_node nodes t i) params) refl

  result-same : (o : Option ℕ) → named_or place.Nothing (result_of_node others) o ≡ named_or place.Nothing (result_of_node nodes) o
  result-same None = refl
  result-same (Some to) = rw (size-same to, classes-same to) refl

  outcome-same : (i : ℕ) → outcome_of others (view_at others i) ≡ outcome_of nodes (view_at nodes i)
  outcome-same i = rw (parts-same i) (result-same (to_of (part_at (view_at nodes i) 0)))

  pub call-same : (i : ℕ) → call_of others i ≡ call_of nodes i
  unfolding call_of
  call-same i = rw (outcome-same i, kind-same i, parts-same i, places-same (registers_of_result (outcome_of nodes (view_at nodes i))) (params_of (view_at nodes i).parts)) refl

-- ---- graphs with the calls of their nodes

call_at-calls_of : (nodes : List PlainNode) (i : ℕ) → i < length nodes → call_at (calls_of nodes) i ≡ call_of nodes i
call_at-calls_of nodes i lt = get_or-map-range_with_len (call_of nodes) 0 (length nodes) i i no_call lt (omega arith)

given-inside : (nodes : List PlainNode) → IsGraph nodes → (i : ℕ) → i < length nodes → (view_at (shaped nodes (calls_of nodes)) i).call ≡ call_of nodes i
given-inside nodes is i lt = ap (λ (n : PlainNode). n.view.call) (node_at-shaped nodes (calls_of nodes) i lt) ∙ ap (λ (call : CallShape). (shaped_node (node_at nodes i) call).view.call) (call_at-calls_of nodes i lt) ∙ go (is_function (view_at nodes i).kind) refl where
  go : (b : Bool) → is_function (view_at nodes i).kind ≡ b → (shaped_node (node_at nodes i) (call_of nodes i)).view.call ≡ call_of nodes i
  go true function = rw function refl
  go false other = rw other ((is.forms i).call other ∙ call-none nodes i other)

given-past : (nodes : List PlainNode) (i : ℕ) → length (shaped nodes (calls_of nodes)) ≡ length nodes → length nodes ≤ i → (view_at (shaped nodes (calls_of nodes)) i).call ≡ call_of nodes i
given-past nodes i many past =
    let void : node_at nodes i ≡ void_node = get_or_past nodes i void_node past in
    let void_after : node_at (shaped nodes (calls_of nodes)) i ≡ void_node = get_or_past (shaped nodes (calls_of nodes)) i void_node (omega arith) in
    let other : is_function (view_at nodes i).kind ≡ false = ap (λ (n : PlainNode). is_function n.view.kind) void in
    ap (λ (n : PlainNode). n.view.call) void_after ∙ call-none nodes i other

-- each node of the graph that is given the calls of its nodes has its call
pub given-right : (nodes : List PlainNode) → IsGraph nodes → length (shaped nodes (calls_of nodes)) ≡ length nodes → (i : ℕ) → (view_at (shaped nodes (calls_of nodes)) i).call ≡ call_of nodes i
given-right nodes is many i = elim (cases_lt i (length nodes)) [ inl lt ↦ given-inside nodes is i lt | inr past ↦ given-past nodes i many past ]
