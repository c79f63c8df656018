-- Slots and stack places.
use Rattle.std.proofs.Common.{◌≡◌, ◌<◌, ◌≤◌, ◌≢◌, ◌+◌, ◌-◌, ◌^◌, ◌∙◌, ℕ, List, [], ◌∷◌, ◌++◌, length, get_or, set, take, refl, ap, arith, get_or-set_other, get_or-set_same, below_more, append-nil, Some, None}
use Rattle.std.specs.Prelude.{Bool, true, false, ◌||◌, nat_lt}
use Rattle.psabi.specs.declared.class.Class.{Class}
use Rattle.psabi.specs.declared.argument_registers.ArgumentRegisters.{ArgumentRegisters}
use Rattle.std.specs.List.{list_any, sum_by}
use Rattle.std.proofs.lemmas.Bool.{ltb-false}
use Rattle.std.proofs.Math.Nat.{div-mul-le_self}
use Rattle.abi_types.specs.declared.place.Place.{Place}
use Rattle.abi_types.specs.declared.place.Place.TheVariants as place
use Rattle.std.proofs.lemmas.List.{take_more, take_all}
use Rattle.std.proofs.lemmas.List.Elements.{filter_map-append}
use Rattle.std.proofs.lemmas.List.Sums.{fold-append, sum_by_more}
use Rattle.abi_base.proofs.lemmas.Bools.{or_is_false}
use Rattle.abi_types.specs.Types.{PlainPart, Member, Enumerator, Target, Element, Outcome, Param, PlainView, PlainNode}
use Rattle.abi_types.specs.Forms.{is_function, no_call}
use Rattle.abi_types.specs.Graphs.{no_part, to_of, room_of, view_at, param_of, params_of}
use Rattle.abi_types.specs.declared.place.CallShape.{CallShape}
use Rattle.psabi.specs.Results.{outcome_of, registers_of_result}
use Rattle.psabi.specs.Calls.{call_of}
use Rattle.psabi.specs.Arguments.{places, place_of_node, taken_by, taken_with_node, is_stacked, argument_slots, stack_offset, stack_size, step_of, goes_to_stack, taken_with, place_in}
use Rattle.psabi.specs.Registers.{has_no_place, general_count, vector_count}

-- one more place of a list is eightbytes
pub fill-more : {X : Type 0} (f : ℕ → X) (xs : List X) (k : ℕ) (x d : X) → k < length xs → x ≡ f k → ((j : ℕ) → j < k → get_or xs j d ≡ f j) → (j : ℕ) → j < k + 1 → get_or (set xs k x) j d ≡ f j
fill-more f xs k x d lt e below =
    below_more (λ j. get_or (set xs k x) j d ≡ f j) k
    (λ j h. let ne : j ≢ k = omega arith in rw get_or-set_other (below j h))
    (rw get_or-set_same e)

-- ---- one argument, case by case

pub place-none : (t : ArgumentRegisters) (size align : ℕ) (cs : List Class) → has_no_place size cs ≡ true → (place_in t size align cs ≡ place.Nothing) × (taken_with t size align cs ≡ t)
unfolding place_in taken_with
place-none t size align cs none = (rw none refl, rw none refl)

pub place-stack : (t : ArgumentRegisters) (size align : ℕ) (cs : List Class) → has_no_place size cs ≡ false → goes_to_stack t cs ≡ true → (place_in t size align cs ≡ place.Stack (stack_offset t.stack align) (stack_size size)) × (taken_with t size align cs ≡ record t { stack = stack_offset t.stack align + stack_size size })
unfolding place_in taken_with
place-stack t size align cs some stack = (rw (some, stack) refl, rw (some, stack) refl)

pub place-registers : (t : ArgumentRegisters) (size align : ℕ) (cs : List Class) → has_no_place size cs ≡ false → goes_to_stack t cs ≡ false → (place_in t size align cs ≡ place.Registers (argument_slots t cs)) × (taken_with t size align cs ≡ record t { general = t.general + general_count cs; vector = t.vector + vector_count cs })
unfolding place_in taken_with
place-registers t size align cs some stack = (rw (some, stack) refl, rw (some, stack) refl)

-- registers suffice for an argument that does not go to the stack
pub registers-suffice : (t : ArgumentRegisters) (cs : List Class) → goes_to_stack t cs ≡ false → (t.general + general_count cs ≤ 6) × (t.vector + vector_count cs ≤ 8)
unfolding goes_to_stack
registers-suffice t cs e =
    let first = or_is_false (list_any is_stacked cs || nat_lt 6 (t.general + general_count cs)) (nat_lt 8 (t.vector + vector_count cs)) e in
    let second = or_is_false (list_any is_stacked cs) (nat_lt 6 (t.general + general_count cs)) first.0 in
    (ltb-false 6 (t.general + general_count cs) second.1, ltb-false 8 (t.vector + vector_count cs) first.1)

-- ---- the stack

step-bound : (align : ℕ) → align ≤ 2 ^ 32 → step_of align ≤ 2 ^ 32
step-bound align le = go (nat_lt align 16) refl where
  go : (b : Bool) → nat_lt align 16 ≡ b → step_of align ≤ 2 ^ 32
  go true is = rw is (omega arith)
  go false is = rw is le

pub stack-bound : (end size align : ℕ) → align ≤ 2 ^ 32 → stack_offset end align + stack_size size ≤ end + (size + 2 ^ 33)
unfolding stack_offset stack_size
stack-bound end size align le =
    let offset = div-mul-le_self (end + (step_of align - 1)) (step_of align) in
    let many = div-mul-le_self (size + (8 - 1)) 8 in
    let step = step-bound align le in
    omega (arith, offset, many, step)

-- ---- one more argument

pub places-more : (nodes : List PlainNode) (t : ArgumentRegisters) (params : List ℕ) (i : ℕ) → places nodes t (params ++ i ∷ []) ≡ places nodes t params ++ place_of_node nodes (taken_by nodes t params) i ∷ []
unfolding places taken_by
places-more nodes t [] i = refl
places-more nodes t (p ∷ params) i = ap (λ (ps : List Place). place_of_node nodes t p ∷ ps) (places-more nodes (taken_with_node nodes t p) params i)

pub taken-more : (nodes : List PlainNode) (t : ArgumentRegisters) (params : List ℕ) (i : ℕ) → taken_by nodes t (params ++ i ∷ []) ≡ taken_with_node nodes (taken_by nodes t params) i
unfolding taken_by
taken-more nodes t params i = fold-append (taken_with_node nodes) t params (i ∷ [])

params-more : (parts : List PlainPart) (k : ℕ) → k < length parts → params_of (take (k + 1) parts) ≡ params_of (take k parts) ++ params_of (get_or parts k no_part ∷ [])
params-more parts k lt = rw (take_more parts k no_part lt) (filter_map-append param_of (take k parts) (get_or parts k no_part ∷ []))

pub params-some : (parts : List PlainPart) (k i : ℕ) → k < length parts → param_of (get_or parts k no_part) ≡ Some i → params_of (take (k + 1) parts) ≡ params_of (take k parts) ++ i ∷ []
params-some parts k i lt e = params-more parts k lt ∙ rw e refl

pub params-none : (parts : List PlainPart) (k : ℕ) → k < length parts → param_of (get_or parts k no_part) ≡ None → params_of (take (k + 1) parts) ≡ params_of (take k parts)
params-none parts k lt e = params-more parts k lt ∙ rw e (append-nil (params_of (take k parts)))

-- ---- a call's parameters so far

param-is : (p : PlainPart) (i : ℕ) → param_of p ≡ Some i → p ≡ Param i
param-is (Param to) i e = let same : to ≡ i = cc in ap Param same
param-is (Member name bit width to) i e = cc
param-is (Enumerator name value) i e = cc
param-is (Target to) i e = cc
param-is (Element to) i e = cc
param-is (Outcome to) i e = cc

pub param-named : (p : PlainPart) (i : ℕ) → param_of p ≡ Some i → to_of p ≡ Some i
param-named p i e = rw (param-is p i e) refl

pub placed-params : (nodes : List PlainNode) (t u : ArgumentRegisters) (parts : List PlainPart) (k i : ℕ) (p : Place) (ps qs : List Place) → k < length parts → param_of (get_or parts k no_part) ≡ Some i → ps ≡ places nodes t (params_of (take k parts)) → u ≡ taken_by nodes t (params_of (take k parts)) → p ≡ place_of_node nodes u i → qs ≡ ps ++ p ∷ [] → qs ≡ places nodes t (params_of (take (k + 1) parts))
placed-params nodes t u parts k i p ps qs lt e so_far held here next =
    rw (params-some parts k i lt e, places-more nodes t (params_of (take k parts)) i, ← so_far, ← held, ← here) next

pub placed-taken : (nodes : List PlainNode) (t u w : ArgumentRegisters) (parts : List PlainPart) (k i : ℕ) → k < length parts → param_of (get_or parts k no_part) ≡ Some i → u ≡ taken_by nodes t (params_of (take k parts)) → w ≡ taken_with_node nodes u i → w ≡ taken_by nodes t (params_of (take (k + 1) parts))
placed-taken nodes t u w parts k i lt e held next =
    rw (params-some parts k i lt e, taken-more nodes t (params_of (take k parts)) i, ← held) next

pub placed-stack : (nodes : List PlainNode) (parts : List PlainPart) (k i a b : ℕ) → k < length parts → param_of (get_or parts k no_part) ≡ Some i → a ≤ sum_by (room_of nodes) (take k parts) → b ≤ a + ((view_at nodes i).size + 2 ^ 33) → b ≤ sum_by (room_of nodes) (take (k + 1) parts)
placed-stack nodes parts k i a b lt e so_far next =
    let step = sum_by_more (room_of nodes) parts k no_part lt in
    let room : room_of nodes (get_or parts k no_part) ≡ (view_at nodes i).size + 2 ^ 33 = rw (param-is (get_or parts k no_part) i e) refl in
    omega (arith, step, room)

pub passed-stack : (nodes : List PlainNode) (parts : List PlainPart) (k a : ℕ) → k < length parts → a ≤ sum_by (room_of nodes) (take k parts) → a ≤ sum_by (room_of nodes) (take (k + 1) parts)
passed-stack nodes parts k a lt so_far =
    let step = sum_by_more (room_of nodes) parts k no_part lt in
    omega (arith, step)

pub call-none : (nodes : List PlainNode) (i : ℕ) → is_function (view_at nodes i).kind ≡ false → no_call ≡ call_of nodes i
unfolding call_of
call-none nodes i other = rw other refl

pub call-whole : (nodes : List PlainNode) (i k : ℕ) (v : PlainView) (o : Place) (ps : List Place) → v ≡ view_at nodes i → is_function (view_at nodes i).kind ≡ true → length v.parts ≤ k → o ≡ outcome_of nodes (view_at nodes i) → ps ≡ places nodes (registers_of_result o) (params_of (take k v.parts)) → ◌≡◌ {A = CallShape} (record { outcome = o; params = ps }) (call_of nodes i)
unfolding call_of
call-whole nodes i k v o ps same function past outcome params =
    let all = take_all k v.parts past in
    rw (function, params, all, outcome, same) refl

pub result-takes : (o : Place) → ((registers_of_result o).general ≤ 6) × ((registers_of_result o).vector ≤ 8) × ((registers_of_result o).stack ≤ 0)
result-takes place.Hidden = (omega arith, omega arith, omega arith)
result-takes place.Nothing = (omega arith, omega arith, omega arith)
result-takes (place.Registers slots) = (omega arith, omega arith, omega arith)
result-takes (place.Stack offset size) = (omega arith, omega arith, omega arith)

pub places-none : (nodes : List PlainNode) (t : ArgumentRegisters) → places nodes t [] ≡ []
unfolding places
places-none nodes t = refl

pub taken-none : (nodes : List PlainNode) (t : ArgumentRegisters) → taken_by nodes t [] ≡ t
unfolding taken_by
taken-none nodes t = refl
