-- What places keep.
use Rattle.std.proofs.Common.{◌≡◌, ◌<◌, ◌≤◌, ◌+◌, ◌-◌, ◌∙◌, ℕ, zero, suc, List, [], ◌∷◌, length, take, Some, refl, ap, sym, subst, arith, ◌++◌, take-append-drop, drop}
use Rattle.std.specs.Prelude.{Bool, true, false, nat_lt, slice_get, count_by, cond}
use Rattle.std.proofs.lemmas.Option.{slice_get_within, get_or_from_slice_get}
use Rattle.std.proofs.lemmas.List.FromFn.{get_or-map-range_with_len, length-map-range_with_len}
use Rattle.std.proofs.lemmas.List.Sums.{count_by_more_yes, fold-append}
use Rattle.std.proofs.lemmas.Nat.{div-add-mod'}
use Rattle.std.proofs.lemmas.Bool.{ltb-false}
use Rattle.std.specs.List.{fold}
use Rattle.std.proofs.Math.Nat.{mod-lt}
use Rattle.abi_types.specs.declared.place.Slot.{Slot}
use Rattle.abi_types.specs.declared.place.Slot.TheVariants as slot
use Rattle.abi_types.specs.declared.place.Place.{Place}
use Rattle.abi_types.specs.declared.place.Place.TheVariants as place
use Rattle.abi_types.specs.Types.{PlainNode}
use Rattle.abi_types.specs.Graphs.{view_at, params_of}
use Rattle.psabi.specs.declared.class.Class.{Class}
use Rattle.psabi.specs.declared.class.Class.TheVariants.{NoClass, Integer, Sse, SseUp, X87, X87Up, ComplexX87, Memory}
use Rattle.psabi.specs.declared.argument_registers.ArgumentRegisters.{ArgumentRegisters}
use Rattle.psabi.specs.Class.{class_at, is_sse, is_integer}
use Rattle.psabi.specs.Classes.{classes_of}
use Rattle.psabi.specs.Alignment.{align_of}
use Rattle.psabi.specs.Registers.{has_no_place, general_count, vector_count}
use Rattle.psabi.specs.Arguments.{goes_to_stack, step_of, stack_offset, stack_size, argument_slot_of, argument_slot, argument_slots, place_in, taken_with, place_of_node, taken_with_node, places}
use Rattle.psabi.specs.Laws.{HoldsGeneral, HoldsVector, IsPlaceOf}
use Rattle.psabi.specs.Psabi.{general_registers, vector_registers, rdi}
use Rattle.psabi.specs.Results.{outcome_of, registers_of_result}
use Rattle.psabi.specs.Calls.{call_of_view, call_of}
use Rattle.abi_types.specs.Forms.{is_function, no_call}
use Rattle.abi_types.specs.declared.kind.Kind.TheVariants as kind
use Rattle.abi_types.specs.declared.place.CallShape.{CallShape}
use Rattle.psabi.proofs.CallLemmas.{place-none, place-stack, place-registers, registers-suffice, result-takes}

-- ---- one argument

pub stack_takes_none : (t : ArgumentRegisters) (size align : ℕ) (cs : List Class) → goes_to_stack t cs ≡ true → ((taken_with t size align cs).general ≡ t.general) × ((taken_with t size align cs).vector ≡ t.vector)
stack_takes_none t size align cs stack = go (has_no_place size cs) refl where
  go : (b : Bool) → has_no_place size cs ≡ b → ((taken_with t size align cs).general ≡ t.general) × ((taken_with t size align cs).vector ≡ t.vector)
  go true none = let e = (place-none t size align cs none).1 in (ap (λ (w : ArgumentRegisters). w.general) e, ap (λ (w : ArgumentRegisters). w.vector) e)
  go false some = let e = (place-stack t size align cs some stack).1 in (ap (λ (w : ArgumentRegisters). w.general) e, ap (λ (w : ArgumentRegisters). w.vector) e)

count-from : (p : Class → Bool) (cs : List Class) (a : ℕ) → a ≤ fold (λ (a : ℕ) (c : Class). a + cond (p c) 1 0) a cs
count-from p [] a = omega arith
count-from p (c ∷ cs) a = let later = count-from p cs (a + cond (p c) 1 0) in omega (arith, later)

count-take : (p : Class → Bool) (cs : List Class) (m : ℕ) → count_by p (take m cs) ≤ count_by p cs
count-take p cs m =
    let F = λ (a : ℕ) (c : Class). a + cond (p c) 1 0 in
    let e : count_by p (take m cs ++ drop m cs) ≡ count_by p cs = ap (count_by p) (take-append-drop m cs) in
    let both = fold-append F 0 (take m cs) (drop m cs) in
    let from = count-from p (drop m cs) (count_by p (take m cs)) in
    omega (arith, e, both, from)

below-from_class : (p : Class → Bool) (cs : List Class) (k : ℕ) → p NoClass ≡ false → p (class_at cs k) ≡ true → k < length cs
below-from_class p [] k none here = cc
below-from_class p (c ∷ cs) zero none here = omega arith
below-from_class p (c ∷ cs) (suc k) none here = let lt = below-from_class p cs k none here in omega arith

-- the class of an eightbyte that is there counts among those of all
count-one : (p : Class → Bool) (cs : List Class) (k : ℕ) → p NoClass ≡ false → p (class_at cs k) ≡ true → count_by p (take k cs) + 1 ≤ count_by p cs
count-one p cs k none here =
    let lt : k < length cs = below-from_class p cs k none here in
    let next = count_by_more_yes p cs k NoClass lt here in
    let le = count-take p cs (k + 1) in
    omega (arith, next, le)

slot-general : (c : Class) (a b n : ℕ) → argument_slot_of c a b ≡ slot.General n → (is_integer c ≡ true) × (n ≡ a)
slot-general Integer a b n e = let same : a ≡ n = cc in (refl, sym same)
slot-general NoClass a b n e = cc
slot-general Sse a b n e = cc
slot-general SseUp a b n e = cc
slot-general X87 a b n e = cc
slot-general X87Up a b n e = cc
slot-general ComplexX87 a b n e = cc
slot-general Memory a b n e = cc

slot-vector : (c : Class) (a b n : ℕ) → argument_slot_of c a b ≡ slot.Vector n → (is_sse c ≡ true) × (n ≡ b)
slot-vector Sse a b n e = let same : b ≡ n = cc in (refl, sym same)
slot-vector Integer a b n e = cc
slot-vector NoClass a b n e = cc
slot-vector SseUp a b n e = cc
slot-vector X87 a b n e = cc
slot-vector X87Up a b n e = cc
slot-vector ComplexX87 a b n e = cc
slot-vector Memory a b n e = cc

slot-at : (t : ArgumentRegisters) (cs : List Class) (k : ℕ) (s : Slot) → slice_get (argument_slots t cs) k ≡ Some s → argument_slot t cs k ≡ s
unfolding argument_slots
slot-at t cs k s e =
    let within = slice_get_within (argument_slots t cs) k s e in
    let many = length-map-range_with_len (argument_slot t cs) 0 8 in
    let lt : k < 8 = omega (arith, within, many) in
    let at_k = get_or-map-range_with_len (argument_slot t cs) 0 8 k k slot.Unused lt (omega arith) in
    let read = get_or_from_slice_get (argument_slots t cs) k s slot.Unused e in
    sym at_k ∙ read

-- the registers of an argument are those that it takes
general-registers : (t : ArgumentRegisters) (cs : List Class) (n : ℕ) → HoldsGeneral (place.Registers (argument_slots t cs)) n → (t.general ≤ n) × (n < t.general + general_count cs)
unfolding general_count
general-registers t cs n holds =
    let k = holds.0 in
    let both = slot-general (class_at cs k) (t.general + general_count (take k cs)) (t.vector + vector_count (take k cs)) n (slot-at t cs k (slot.General n) holds.1) in
    let one = count-one is_integer cs k refl both.0 in
    (omega (arith, both.1), omega (arith, both.1, one))

vector-registers : (t : ArgumentRegisters) (cs : List Class) (n : ℕ) → HoldsVector (place.Registers (argument_slots t cs)) n → (t.vector ≤ n) × (n < t.vector + vector_count cs)
unfolding vector_count
vector-registers t cs n holds =
    let k = holds.0 in
    let both = slot-vector (class_at cs k) (t.general + general_count (take k cs)) (t.vector + vector_count (take k cs)) n (slot-at t cs k (slot.Vector n) holds.1) in
    let one = count-one is_sse cs k refl both.0 in
    (omega (arith, both.1), omega (arith, both.1, one))

general-within : (t : ArgumentRegisters) (size align : ℕ) (cs : List Class) (n : ℕ) → HoldsGeneral (place_in t size align cs) n → (t.general ≤ n) × (n < (taken_with t size align cs).general)
general-within t size align cs n holds = go (has_no_place size cs) (goes_to_stack t cs) refl refl where
  P : Place → Type 0
  P q = HoldsGeneral q n

  go : (a b : Bool) → has_no_place size cs ≡ a → goes_to_stack t cs ≡ b → (t.general ≤ n) × (n < (taken_with t size align cs).general)
  go true b none stack = absurd (subst P (place-none t size align cs none).0 holds)
  go false true some stack = absurd (subst P (place-stack t size align cs some stack).0 holds)
  go false false some stack =
      let both = general-registers t cs n (subst P (place-registers t size align cs some stack).0 holds) in
      let e = ap (λ (w : ArgumentRegisters). w.general) (place-registers t size align cs some stack).1 in
      (both.0, omega (arith, both.1, e))

vector-within : (t : ArgumentRegisters) (size align : ℕ) (cs : List Class) (n : ℕ) → HoldsVector (place_in t size align cs) n → (t.vector ≤ n) × (n < (taken_with t size align cs).vector)
vector-within t size align cs n holds = go (has_no_place size cs) (goes_to_stack t cs) refl refl where
  P : Place → Type 0
  P q = HoldsVector q n

  go : (a b : Bool) → has_no_place size cs ≡ a → goes_to_stack t cs ≡ b → (t.vector ≤ n) × (n < (taken_with t size align cs).vector)
  go true b none stack = absurd (subst P (place-none t size align cs none).0 holds)
  go false true some stack = absurd (subst P (place-stack t size align cs some stack).0 holds)
  go false false some stack =
      let both = vector-registers t cs n (subst P (place-registers t size align cs some stack).0 holds) in
      let e = ap (λ (w : ArgumentRegisters). w.vector) (place-registers t size align cs some stack).1 in
      (both.0, omega (arith, both.1, e))

-- ---- what is taken never falls

pub step-some : (align : ℕ) → 0 < step_of align
step-some align = go (nat_lt align 16) refl where
  go : (b : Bool) → nat_lt align 16 ≡ b → 0 < step_of align
  go true is = rw is (omega arith)
  go false is = let le = ltb-false align 16 is in rw is (omega (arith, le))

pub rounded-above : (end align : ℕ) → end ≤ stack_offset end align
unfolding stack_offset
rounded-above end align =
    let step = step_of align in
    let some : 0 < step_of align = step-some align in
    let whole = div-add-mod' (end + (step_of align - 1)) (step_of align) in
    let rest = mod-lt (end + (step_of align - 1)) some in
    omega (arith, whole, rest, some)

pub record IsAbove (t w : ArgumentRegisters) : Type 0 where
  pub general : t.general ≤ w.general
  pub vector : t.vector ≤ w.vector
  pub stack : t.stack ≤ w.stack

taken-above : (t : ArgumentRegisters) (size align : ℕ) (cs : List Class) → IsAbove t (taken_with t size align cs)
taken-above t size align cs = go (has_no_place size cs) (goes_to_stack t cs) refl refl where
  go : (a b : Bool) → has_no_place size cs ≡ a → goes_to_stack t cs ≡ b → IsAbove t (taken_with t size align cs)
  go true b none stack = rw (place-none t size align cs none).1 (record { general = omega arith; vector = omega arith; stack = omega arith })
  go false true some stack = let above = rounded-above t.stack align in rw (place-stack t size align cs some stack).1 (record { general = omega arith; vector = omega arith; stack = omega (arith, above) })
  go false false some stack = rw (place-registers t size align cs some stack).1 (record { general = omega arith; vector = omega arith; stack = omega arith })

-- ---- arguments in order

-- the later arguments hold registers above what is taken before
later-general : (nodes : List PlainNode) (t : ArgumentRegisters) (params : List ℕ) (b n : ℕ) (q : Place) → slice_get (places nodes t params) b ≡ Some q → HoldsGeneral q n → t.general ≤ n
unfolding places
later-general nodes t [] b n q e holds = cc
later-general nodes t (i ∷ params) zero n q e holds =
    let same : place_of_node nodes t i ≡ q = cc in
    let P : Place → Type 0 = λ q. HoldsGeneral q n in
    (general-within t (view_at nodes i).size (align_of nodes i) (classes_of nodes i) n (subst P (sym same) holds)).0
later-general nodes t (i ∷ params) (suc b) n q e holds =
    let above = taken-above t (view_at nodes i).size (align_of nodes i) (classes_of nodes i) in
    let later = later-general nodes (taken_with_node nodes t i) params b n q e holds in
    omega (arith, above.general, later)

later-vector : (nodes : List PlainNode) (t : ArgumentRegisters) (params : List ℕ) (b n : ℕ) (q : Place) → slice_get (places nodes t params) b ≡ Some q → HoldsVector q n → t.vector ≤ n
unfolding places
later-vector nodes t [] b n q e holds = cc
later-vector nodes t (i ∷ params) zero n q e holds =
    let same : place_of_node nodes t i ≡ q = cc in
    let P : Place → Type 0 = λ q. HoldsVector q n in
    (vector-within t (view_at nodes i).size (align_of nodes i) (classes_of nodes i) n (subst P (sym same) holds)).0
later-vector nodes t (i ∷ params) (suc b) n q e holds =
    let above = taken-above t (view_at nodes i).size (align_of nodes i) (classes_of nodes i) in
    let later = later-vector nodes (taken_with_node nodes t i) params b n q e holds in
    omega (arith, above.vector, later)

no_register_shared : (nodes : List PlainNode) (t : ArgumentRegisters) (params : List ℕ) (a b : ℕ) (p q : Place) → a < b → slice_get (places nodes t params) a ≡ Some p → slice_get (places nodes t params) b ≡ Some q → (n : ℕ) → (HoldsGeneral p n → HoldsGeneral q n → ⊥) × (HoldsVector p n → HoldsVector q n → ⊥)
unfolding places
no_register_shared nodes t [] a b p q lt e f n = cc
no_register_shared nodes t (i ∷ params) a zero p q lt e f n = absurd (omega arith)
no_register_shared nodes t (i ∷ params) (suc a) (suc b) p q lt e f n = no_register_shared nodes (taken_with_node nodes t i) params a b p q (omega arith) e f n
no_register_shared nodes t (i ∷ params) zero (suc b) p q lt e f n =
    let same : place_of_node nodes t i ≡ p = cc in
    let G : Place → Type 0 = λ q. HoldsGeneral q n in
    let V : Place → Type 0 = λ q. HoldsVector q n in (
      λ one other.
          let first = general-within t (view_at nodes i).size (align_of nodes i) (classes_of nodes i) n (subst G (sym same) one) in
          let later = later-general nodes (taken_with_node nodes t i) params b n q f other in
          omega (arith, first.1, later),
      λ one other.
          let first = vector-within t (view_at nodes i).size (align_of nodes i) (classes_of nodes i) n (subst V (sym same) one) in
          let later = later-vector nodes (taken_with_node nodes t i) params b n q f other in
          omega (arith, first.1, later),
    )

-- ---- stack places

stack-within : (t : ArgumentRegisters) (size align : ℕ) (cs : List Class) (from many : ℕ) → place_in t size align cs ≡ place.Stack from many → (t.stack ≤ from) × (from + many ≤ (taken_with t size align cs).stack)
stack-within t size align cs from many e = go (has_no_place size cs) (goes_to_stack t cs) refl refl where
  go : (a b : Bool) → has_no_place size cs ≡ a → goes_to_stack t cs ≡ b → (t.stack ≤ from) × (from + many ≤ (taken_with t size align cs).stack)
  go true b none stack = let other = (place-none t size align cs none).0 in cc
  go false true some stack =
      let here : place.Stack (stack_offset t.stack align) (stack_size size) ≡ place.Stack from many = sym (place-stack t size align cs some stack).0 ∙ e in
      let offset : stack_offset t.stack align ≡ from = cc in
      let bytes : stack_size size ≡ many = cc in
      let above = rounded-above t.stack align in
      let end = ap (λ (w : ArgumentRegisters). w.stack) (place-stack t size align cs some stack).1 in
      (omega (arith, above, offset), omega (arith, end, offset, bytes))
  go false false some stack = let other = (place-registers t size align cs some stack).0 in cc

later-stack : (nodes : List PlainNode) (t : ArgumentRegisters) (params : List ℕ) (b from many : ℕ) → slice_get (places nodes t params) b ≡ Some (place.Stack from many) → t.stack ≤ from
unfolding places
later-stack nodes t [] b from many e = cc
later-stack nodes t (i ∷ params) zero from many e =
    let same : place_of_node nodes t i ≡ place.Stack from many = cc in
    (stack-within t (view_at nodes i).size (align_of nodes i) (classes_of nodes i) from many same).0
later-stack nodes t (i ∷ params) (suc b) from many e =
    let above = taken-above t (view_at nodes i).size (align_of nodes i) (classes_of nodes i) in
    let later = later-stack nodes (taken_with_node nodes t i) params b from many e in
    omega (arith, above.stack, later)

places_ascend : (nodes : List PlainNode) (t : ArgumentRegisters) (params : List ℕ) (a b from size from' size' : ℕ) → a < b → slice_get (places nodes t params) a ≡ Some (place.Stack from size) → slice_get (places nodes t params) b ≡ Some (place.Stack from' size') → from + size ≤ from'
unfolding places
places_ascend nodes t [] a b from size from' size' lt e f = cc
places_ascend nodes t (i ∷ params) a zero from size from' size' lt e f = absurd (omega arith)
places_ascend nodes t (i ∷ params) (suc a) (suc b) from size from' size' lt e f = places_ascend nodes (taken_with_node nodes t i) params a b from size from' size' (omega arith) e f
places_ascend nodes t (i ∷ params) zero (suc b) from size from' size' lt e f =
    let same : place_of_node nodes t i ≡ place.Stack from size = cc in
    let first = stack-within t (view_at nodes i).size (align_of nodes i) (classes_of nodes i) from size same in
    let later = later-stack nodes (taken_with_node nodes t i) params b from' size' f in
    omega (arith, first.1, later)

-- ---- the registers for arguments suffice

taken-within : (t : ArgumentRegisters) (size align : ℕ) (cs : List Class) → t.general ≤ general_registers → t.vector ≤ vector_registers → ((taken_with t size align cs).general ≤ general_registers) × ((taken_with t size align cs).vector ≤ vector_registers)
taken-within t size align cs general vector = go (has_no_place size cs) (goes_to_stack t cs) refl refl where
  go : (a b : Bool) → has_no_place size cs ≡ a → goes_to_stack t cs ≡ b → ((taken_with t size align cs).general ≤ general_registers) × ((taken_with t size align cs).vector ≤ vector_registers)
  go true b none stack = rw (place-none t size align cs none).1 (general, vector)
  go false true some stack = rw (place-stack t size align cs some stack).1 (general, vector)
  go false false some stack = rw (place-registers t size align cs some stack).1 (registers-suffice t cs stack)

registers-below : (nodes : List PlainNode) (t : ArgumentRegisters) (params : List ℕ) (a n : ℕ) (p : Place) → t.general ≤ general_registers → t.vector ≤ vector_registers → slice_get (places nodes t params) a ≡ Some p → (HoldsGeneral p n → n < general_registers) × (HoldsVector p n → n < vector_registers)
unfolding places
registers-below nodes t [] a n p general vector e = cc
registers-below nodes t (i ∷ params) zero n p general vector e =
    let same : place_of_node nodes t i ≡ p = cc in
    let G : Place → Type 0 = λ q. HoldsGeneral q n in
    let V : Place → Type 0 = λ q. HoldsVector q n in
    let within = taken-within t (view_at nodes i).size (align_of nodes i) (classes_of nodes i) general vector in (
      λ holds.
          let own = general-within t (view_at nodes i).size (align_of nodes i) (classes_of nodes i) n (subst G (sym same) holds) in
          omega (arith, own.1, within.0),
      λ holds.
          let own = vector-within t (view_at nodes i).size (align_of nodes i) (classes_of nodes i) n (subst V (sym same) holds) in
          omega (arith, own.1, within.1),
    )
registers-below nodes t (i ∷ params) (suc a) n p general vector e =
    let within = taken-within t (view_at nodes i).size (align_of nodes i) (classes_of nodes i) general vector in
    registers-below nodes (taken_with_node nodes t i) params a n p within.0 within.1 e

-- ---- calls

call-cases : (nodes : List PlainNode) (i : ℕ) (P : CallShape → Type 0) → P no_call → P (call_of_view nodes (view_at nodes i)) → P (call_of nodes i)
unfolding call_of
call-cases nodes i P none some = go (is_function (view_at nodes i).kind) refl where
  go : (b : Bool) → is_function (view_at nodes i).kind ≡ b → P (call_of nodes i)
  go true is = rw is some
  go false is = rw is none

pub arguments_share_none : (nodes : List PlainNode) (i a b : ℕ) (p q : Place) → a < b → IsPlaceOf (call_of nodes i) a p → IsPlaceOf (call_of nodes i) b q → (n : ℕ) → (HoldsGeneral p n → HoldsGeneral q n → ⊥) × (HoldsVector p n → HoldsVector q n → ⊥)
arguments_share_none nodes i a b p q lt =
    let P : CallShape → Type 0 = λ call. IsPlaceOf call a p → IsPlaceOf call b q → (n : ℕ) → (HoldsGeneral p n → HoldsGeneral q n → ⊥) × (HoldsVector p n → HoldsVector q n → ⊥) in
    let v = view_at nodes i in
    call-cases nodes i P (λ e f n. cc) (λ e f n. no_register_shared nodes (registers_of_result (outcome_of nodes v)) (params_of v.parts) a b p q lt e f n)

pub arguments_hold_theirs : (nodes : List PlainNode) (i a : ℕ) (p : Place) → IsPlaceOf (call_of nodes i) a p → (n : ℕ) → (HoldsGeneral p n → n < general_registers) × (HoldsVector p n → n < vector_registers)
arguments_hold_theirs nodes i a p =
    let P : CallShape → Type 0 = λ call. IsPlaceOf call a p → (n : ℕ) → (HoldsGeneral p n → n < general_registers) × (HoldsVector p n → n < vector_registers) in
    let v = view_at nodes i in
    let few = result-takes (outcome_of nodes v) in
    call-cases nodes i P (λ e n. cc) (λ e n. registers-below nodes (registers_of_result (outcome_of nodes v)) (params_of v.parts) a n p few.0 few.1 e)

hidden-takes : (o : Place) → o ≡ place.Hidden → (registers_of_result o).general ≡ 1
hidden-takes o e = rw e refl

pub hidden_keeps_rdi : (nodes : List PlainNode) (i a : ℕ) (p : Place) → (call_of nodes i).outcome ≡ place.Hidden → IsPlaceOf (call_of nodes i) a p → HoldsGeneral p rdi → ⊥
hidden_keeps_rdi nodes i a p =
    let P : CallShape → Type 0 = λ call. call.outcome ≡ place.Hidden → IsPlaceOf call a p → HoldsGeneral p rdi → ⊥ in
    let v = view_at nodes i in
    call-cases nodes i P (λ hidden e holds. cc)
    (λ hidden e holds.
    let one = hidden-takes (outcome_of nodes v) hidden in
    let above = later-general nodes (registers_of_result (outcome_of nodes v)) (params_of v.parts) a rdi p e holds in
    omega (arith, one, above))

pub stack_ascends : (nodes : List PlainNode) (i a b from size from' size' : ℕ) → a < b → IsPlaceOf (call_of nodes i) a (place.Stack from size) → IsPlaceOf (call_of nodes i) b (place.Stack from' size') → from + size ≤ from'
stack_ascends nodes i a b from size from' size' lt =
    let P : CallShape → Type 0 = λ call. IsPlaceOf call a (place.Stack from size) → IsPlaceOf call b (place.Stack from' size') → from + size ≤ from' in
    let v = view_at nodes i in
    call-cases nodes i P (λ e f. cc) (λ e f. places_ascend nodes (registers_of_result (outcome_of nodes v)) (params_of v.parts) a b from size from' size' lt e f)

length-places : (nodes : List PlainNode) (t : ArgumentRegisters) (params : List ℕ) → length (places nodes t params) ≡ length params
unfolding places
length-places nodes t [] = refl
length-places nodes t (i ∷ params) = let later = length-places nodes (taken_with_node nodes t i) params in omega (arith, later)

pub parameters_have_places : (nodes : List PlainNode) (i : ℕ) → (view_at nodes i).kind ≡ kind.Function → length (call_of nodes i).params ≡ length (params_of (view_at nodes i).parts)
unfolding call_of
parameters_have_places nodes i function =
    let v = view_at nodes i in
    rw function (length-places nodes (registers_of_result (outcome_of nodes v)) (params_of v.parts))
