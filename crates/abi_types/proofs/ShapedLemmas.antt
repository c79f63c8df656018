-- Graphs with call places are graphs.
use Rattle.std.proofs.Common.{◌≡◌, ◌<◌, ◌≤◌, ◌+◌, ◌*◌, ℕ, Bool, true, false, cond, List, [], ◌∷◌, ◌++◌, length, take, get_or, set, refl, sym, ap, ◌∙◌, arith, subst, inl, inr, ◌⊎◌}
use Rattle.std.specs.List.{sum_by}
use Rattle.std.proofs.lemmas.Bool.{cases_lt, cases_order, false≢true}
use Rattle.std.proofs.lemmas.List.{get_or_past, get_or_read, get_or-set_same, get_or-set_other, get_or-take, take-take, length-append}
use Rattle.std.proofs.Math.Seq.{take-append_seam, get_or-append_seam}
use Rattle.std.proofs.lemmas.List.Sums.{sum_by-cons}
use Rattle.std.proofs.lemmas.List.FromFn.{length-map-range_with_len, fill_by_all}
use Rattle.abi_types.specs.declared.place.CallShape.{CallShape}
use Rattle.abi_types.specs.Types.{PlainPart, Param, PlainView, PlainNode}
use Rattle.abi_types.specs.Forms.{has_elements, is_function, no_call, HasForm}
use Rattle.abi_types.specs.Limits.{align_room}
use Rattle.abi_types.specs.Graphs.{IsGraph, KeepsLimits, KeepsBits, node_at, view_at, part_at, no_part, void_node, call_at, shaped_node, shaped, to_of, inner_of, room_of, rooms}
use Rattle.abi_types.specs.Calls.{IsSameButCall}
use Rattle.abi_types.specs.Entries.{entry_at, IsEntryOrder}
use Rattle.abi_types.proofs.lemmas.Shaped.{node_at-shaped}

-- ---- one node

-- the node, or the node of a function with another call
abbrev IsShaped : PlainNode → PlainNode → Type 0
IsShaped n m = (m ≡ n) ⊎ ((is_function n.view.kind ≡ true) × ((call : CallShape) × (m ≡ record n { view = record n.view { call = call } })))

module _ (n m : PlainNode) (is : IsShaped n m) where
  same_entry : m.entry ≡ n.entry
  same_entry = elim is [ inl e ↦ ap (λ (x : PlainNode). x.entry) e | inr f ↦ ap (λ (x : PlainNode). x.entry) f.1.1 ]

  same_rank : m.rank ≡ n.rank
  same_rank = elim is [ inl e ↦ ap (λ (x : PlainNode). x.rank) e | inr f ↦ ap (λ (x : PlainNode). x.rank) f.1.1 ]

  same_kind : m.view.kind ≡ n.view.kind
  same_kind = elim is [ inl e ↦ ap (λ (x : PlainNode). x.view.kind) e | inr f ↦ ap (λ (x : PlainNode). x.view.kind) f.1.1 ]

  same_size : m.view.size ≡ n.view.size
  same_size = elim is [ inl e ↦ ap (λ (x : PlainNode). x.view.size) e | inr f ↦ ap (λ (x : PlainNode). x.view.size) f.1.1 ]

  same_count : m.view.count ≡ n.view.count
  same_count = elim is [ inl e ↦ ap (λ (x : PlainNode). x.view.count) e | inr f ↦ ap (λ (x : PlainNode). x.view.count) f.1.1 ]

  same_align : m.view.align ≡ n.view.align
  same_align = elim is [ inl e ↦ ap (λ (x : PlainNode). x.view.align) e | inr f ↦ ap (λ (x : PlainNode). x.view.align) f.1.1 ]

  same_parts : m.view.parts ≡ n.view.parts
  same_parts = elim is [ inl e ↦ ap (λ (x : PlainNode). x.view.parts) e | inr f ↦ ap (λ (x : PlainNode). x.view.parts) f.1.1 ]

form_with_call : (v : PlainView) (call : CallShape) → is_function v.kind ≡ true → HasForm v → HasForm (record v { call = call })
form_with_call v call function form = record {
  tag = form.tag;
  defined = form.defined;
  size = form.size;
  group = form.group;
  count = form.count;
  variadic = form.variadic;
  call = λ other. absurd (false≢true (sym other ∙ function));
  parts = form.parts;
  unsized = form.unsized;
  empty = form.empty;
}

form_shaped : (n m : PlainNode) → IsShaped n m → HasForm n.view → HasForm m.view
form_shaped n m (inl e) form = subst (λ (x : PlainNode). HasForm x.view) (sym e) form
form_shaped n m (inr f) form = subst (λ (x : PlainNode). HasForm x.view) (sym f.1.1) (form_with_call n.view f.1.0 f.0 form)

-- ---- all nodes

IsShaped-shaped_node : (n : PlainNode) (call : CallShape) → IsShaped n (shaped_node n call)
IsShaped-shaped_node n call = go (is_function n.view.kind) refl where
  go : (b : Bool) → is_function n.view.kind ≡ b → IsShaped n (cond b (record n { view = record n.view { call = call } }) n)
  go true e = inr (e, (call, refl))
  go false e = inl refl

pub length-shaped : (nodes : List PlainNode) (calls : List CallShape) → length (shaped nodes calls) ≡ length nodes
unfolding shaped
length-shaped nodes calls = length-map-range_with_len (λ i. shaped_node (node_at nodes i) (call_at calls i)) 0 (length nodes)

pub IsShaped-at : (nodes : List PlainNode) (calls : List CallShape) (i : ℕ) → IsShaped (node_at nodes i) (node_at (shaped nodes calls) i)
IsShaped-at nodes calls i =
    elim (cases_lt i (length nodes)) [
      | inl inside ↦ rw (node_at-shaped nodes calls i inside) (IsShaped-shaped_node (node_at nodes i) (call_at calls i))
      | inr past ↦ inl (get_or_past (shaped nodes calls) i void_node (omega (arith, length-shaped nodes calls)) ∙ sym (get_or_past nodes i void_node past))
    ]

-- the node is the same, apart from the places of its call
pub IsSameButCall-at : (nodes : List PlainNode) (calls : List CallShape) (i : ℕ) → IsSameButCall (node_at nodes i) (node_at (shaped nodes calls) i)
IsSameButCall-at nodes calls i = go (node_at nodes i) (node_at (shaped nodes calls) i) (IsShaped-at nodes calls i) where
  go : (n m : PlainNode) → IsShaped n m → IsSameButCall n m
  go n m (inl e) = e ∙ ap (λ (x : PlainNode). record n { view = record n.view { call = x.view.call } }) (sym e)
  go n m (inr f) = f.1.1 ∙ ap (λ (call : CallShape). record n { view = record n.view { call = call } }) (sym (ap (λ (x : PlainNode). x.view.call) f.1.1))

sum_by-agree : {X : Type 0} (f h : X → ℕ) (xs : List X) → ((x : X) → f x ≡ h x) → sum_by f xs ≡ sum_by h xs
sum_by-agree f h [] same = refl
sum_by-agree f h (x ∷ xs) same = let ih = sum_by-agree f h xs same in omega (arith, sum_by-cons f x xs, sum_by-cons h x xs, same x, ih)

module _ (nodes : List PlainNode) (calls : List CallShape) where
  at : (i : ℕ) → IsShaped (node_at nodes i) (node_at (shaped nodes calls) i)
  at i = IsShaped-at nodes calls i

  part-same : (i k : ℕ) → part_at (view_at (shaped nodes calls) i) k ≡ part_at (view_at nodes i) k
  part-same i k = ap (λ (ps : List PlainPart). get_or ps k no_part) (same_parts (node_at nodes i) (node_at (shaped nodes calls) i) (at i))

  size-same : (i : ℕ) → (view_at (shaped nodes calls) i).size ≡ (view_at nodes i).size
  size-same i = same_size (node_at nodes i) (node_at (shaped nodes calls) i) (at i)

  room-same : (p : PlainPart) → room_of (shaped nodes calls) p ≡ room_of nodes p
  room-same (Param to) = ap (λ (n : ℕ). n + align_room) (size-same to)
  room-same _ = refl

  rooms-same : (i : ℕ) → rooms (shaped nodes calls) (view_at (shaped nodes calls) i) ≡ rooms nodes (view_at nodes i)
  rooms-same i = ap (sum_by (room_of (shaped nodes calls))) (same_parts (node_at nodes i) (node_at (shaped nodes calls) i) (at i)) ∙ sum_by-agree (room_of (shaped nodes calls)) (room_of nodes) (view_at nodes i).parts room-same

  limits-shaped : (i : ℕ) → KeepsLimits nodes (view_at nodes i) → KeepsLimits (shaped nodes calls) (view_at (shaped nodes calls) i)
  limits-shaped i limits = record {
    size = rw (size-same i) limits.size;
    count = rw (same_count (node_at nodes i) (node_at (shaped nodes calls) i) (at i)) limits.count;
    align = rw (same_align (node_at nodes i) (node_at (shaped nodes calls) i) (at i)) limits.align;
    bits = λ k. subst KeepsBits (sym (part-same i k)) (limits.bits k);
    rooms = rw (rooms-same i) limits.rooms;
  }

  pub IsGraph-shaped : IsGraph nodes → IsGraph (shaped nodes calls)
  IsGraph-shaped graph = record {
    void_first = rw (length-shaped nodes calls) graph.void_first;
    void_kind = same_kind (node_at nodes 0) (node_at (shaped nodes calls) 0) (at 0) ∙ graph.void_kind;
    void_entry = same_entry (node_at nodes 0) (node_at (shaped nodes calls) 0) (at 0) ∙ graph.void_entry;
    inside = λ i k to e. rw (length-shaped nodes calls) (graph.inside i k to (ap to_of (sym (part-same i k)) ∙ e));
    apart = λ i j lt_i lt_j e.
        graph.apart i j (rw (length-shaped nodes calls) at lt_i) (rw (length-shaped nodes calls) at lt_j) (sym (same_entry (node_at nodes i) (node_at (shaped nodes calls) i) (at i)) ∙ e ∙ same_entry (node_at nodes j) (node_at (shaped nodes calls) j) (at j));
    falls = λ i k to e.
        let low = graph.falls i k to (ap inner_of (sym (part-same i k)) ∙ e) in
        omega (arith, low, same_rank (node_at nodes i) (node_at (shaped nodes calls) i) (at i), same_rank (node_at nodes to) (node_at (shaped nodes calls) to) (at to));
    shallow = λ i. rw (same_rank (node_at nodes i) (node_at (shaped nodes calls) i) (at i)) (graph.shallow i);
    forms = λ i. form_shaped (node_at nodes i) (node_at (shaped nodes calls) i) (at i) (graph.forms i);
    limits = λ i. limits-shaped i (graph.limits i);
    whole = λ i to elements e.
        size-same i ∙ graph.whole i to (ap has_elements (sym (same_kind (node_at nodes i) (node_at (shaped nodes calls) i) (at i))) ∙ elements) (ap to_of (sym (part-same i 0)) ∙ e)
        ∙ ap (λ (n : ℕ). n * (view_at nodes to).size) (sym (same_count (node_at nodes i) (node_at (shaped nodes calls) i) (at i))) ∙ ap (λ (n : ℕ). (view_at (shaped nodes calls) i).count * n) (sym (size-same to));
  }

  entry-same : (i : ℕ) → entry_at (shaped nodes calls) i ≡ entry_at nodes i
  entry-same i = same_entry (node_at nodes i) (node_at (shaped nodes calls) i) (at i)

  pub IsEntryOrder-shaped : (order : List ℕ) → IsEntryOrder order nodes → IsEntryOrder order (shaped nodes calls)
  IsEntryOrder-shaped order is = record {
    all = rw (length-shaped nodes calls) is.all;
    rises = λ i j d le below. omega (arith, is.rises i j d le below, entry-same (get_or order i d), entry-same (get_or order j d));
  }

-- ---- a loop over the nodes

pub shaped-all : (nodes after : List PlainNode) (calls : List CallShape) → length after ≡ length nodes → ((k : ℕ) → k < length after → node_at after k ≡ shaped_node (node_at nodes k) (call_at calls k)) → after ≡ shaped nodes calls
unfolding shaped
shaped-all nodes after calls many done = fill_by_all (λ i. shaped_node (node_at nodes i) (call_at calls i)) after (length nodes) void_node many (λ k lt. done k (omega arith))

-- one more node has its call: `call` is the last of the calls that are `left`, and `rest` are those before it
module _ (nodes now : List PlainNode) (calls left rest : List CallShape) (call : CallShape) (last : ℕ) (here made : PlainNode)
    (many : length now ≡ length nodes) (few : length left ≤ length nodes) (is_left : left ≡ take (length left) calls)
    (popped : left ≡ rest ++ call ∷ []) (at_last : last ≡ length rest) (read : here ≡ get_or now last here) (put : made ≡ shaped_node here call)
    (untouched : (k : ℕ) → k < length left → node_at now k ≡ node_at nodes k) where
  left-longer : length left ≡ length rest + 1
  left-longer = ap length popped ∙ length-append rest (call ∷ [])

  last-inside : last < length now
  last-inside = omega (arith, many, few, at_last, left-longer)

  pub rest-is : rest ≡ take (length rest) calls
  rest-is =
      sym (take-append_seam rest (call ∷ [])) ∙ ap (take (length rest)) (sym popped) ∙ ap (take (length rest)) is_left
      ∙ take-take (length rest) (length left) calls (omega (arith, left-longer))

  call-is : call ≡ call_at calls last
  call-is =
      sym (get_or-append_seam rest call [] no_call) ∙ ap (λ (cs : List CallShape). get_or cs (length rest) no_call) (sym popped ∙ is_left)
      ∙ get_or-take (length left) calls (length rest) no_call (omega (arith, left-longer)) ∙ ap (call_at calls) (sym at_last)

  here-is : here ≡ node_at nodes last
  here-is = get_or_read now last here last-inside read void_node ∙ untouched last (omega (arith, at_last, left-longer))

  pub last-done : node_at (set now last made) last ≡ shaped_node (node_at nodes last) (call_at calls last)
  last-done =
      get_or-set_same now last made void_node last-inside ∙ put ∙ ap (λ (n : PlainNode). shaped_node n call) here-is ∙ ap (shaped_node (node_at nodes last)) call-is

  pub others-done : ((k : ℕ) → length left ≤ k → k < length nodes → node_at now k ≡ shaped_node (node_at nodes k) (call_at calls k))
      → (k : ℕ) → length rest ≤ k → k < length nodes → node_at (set now last made) k ≡ shaped_node (node_at nodes k) (call_at calls k)
  others-done done k le lt = elim (cases_order last k) [
    | inl same ↦ subst (λ (i : ℕ). node_at (set now last made) i ≡ shaped_node (node_at nodes i) (call_at calls i)) same last-done
    | inr (inl less) ↦ get_or-set_other now last k made void_node (λ e. omega arith) ∙ done k (omega (arith, left-longer, at_last, less)) lt
    | inr (inr above) ↦ absurd (omega (arith, at_last, le, above))
  ]

  pub rest-untouched : (k : ℕ) → k < length rest → node_at (set now last made) k ≡ node_at nodes k
  rest-untouched k lt = get_or-set_other now last k made void_node (λ e. omega (arith, at_last, lt, e)) ∙ untouched k (omega (arith, left-longer, lt))

-- what a graph keeps, of the nodes with call places
pub KeepsAll-shaped : (nodes slice : List PlainNode) (calls : List CallShape) (copies : List PlainNode) (order : List ℕ) → slice ≡ nodes → copies ≡ shaped slice calls
    → IsGraph nodes × IsEntryOrder order nodes → IsGraph copies × IsEntryOrder order copies
KeepsAll-shaped nodes slice calls copies order same is kept =
    let e : copies ≡ shaped nodes calls = is ∙ ap (λ (ns : List PlainNode). shaped ns calls) same in
    (subst IsGraph (sym e) (IsGraph-shaped nodes calls kept.0), subst (IsEntryOrder order) (sym e) (IsEntryOrder-shaped nodes calls order kept.1))
