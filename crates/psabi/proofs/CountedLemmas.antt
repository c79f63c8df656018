-- What is taken are the counts over the arguments before.
use Rattle.std.proofs.Common.{◌≡◌, ◌<◌, ◌≤◌, ◌+◌, ◌-◌, ◌*◌, ◌/◌, ◌∙◌, ℕ, zero, suc, List, [], ◌∷◌, length, get_or, map, take, Some, refl, ap, sym, subst, arith, inl, inr}
use Rattle.std.specs.Prelude.{◌↔◌, Bool, true, false, ◌||◌, ◌&&◌, not, max, nat_lt, nat_le, slice_get}
use Rattle.std.specs.List.{list_any}
use Rattle.std.proofs.lemmas.Bool.{cases_lt, ltb-true, ltb-false, leb-true, lt-ltb, le-leb}
use Rattle.std.proofs.lemmas.List.{take_more_same, take_all}
use Rattle.std.proofs.lemmas.Option.{slice_get-get_or, get_or_from_slice_get}
use Rattle.std.proofs.lemmas.Nat.{div-add-mod'}
use Rattle.std.proofs.Math.Nat.{mod-lt, mul-le-mul_right}
use Rattle.abi_base.proofs.lemmas.Bools.{not_is_true, not_is_false}
use Rattle.abi_types.specs.declared.kind.Kind.TheVariants as kind
use Rattle.abi_types.specs.declared.place.Place.{Place}
use Rattle.abi_types.specs.declared.place.Place.TheVariants as place
use Rattle.abi_types.specs.declared.place.CallShape.{CallShape}
use Rattle.abi_types.specs.Types.{PlainNode}
use Rattle.abi_types.specs.Graphs.{view_at, params_of}
use Rattle.psabi.specs.declared.class.Class.{Class}
use Rattle.psabi.specs.declared.argument_registers.ArgumentRegisters.{ArgumentRegisters}
use Rattle.psabi.specs.Arguments.{is_stacked, goes_to_stack, step_of, rounded, stack_offset, stack_size, argument_slots, place_in, taken_with, place_of_node, taken_with_node, places}
use Rattle.psabi.specs.Calls.{call_of, call_of_view}
use Rattle.psabi.specs.Counted.{Argument, argument_at, arguments_of, ints_taken, floats_taken, ints_before, floats_before, end_of, stack_before, bytes_of, bytes_before, ints_of_result, fits, slots_after, place_after, counted_place, AreCounted, IsFirstFrom}
use Rattle.psabi.specs.Laws.{IsPlaceOf}
use Rattle.psabi.specs.Registers.{has_no_place, general_count, vector_count}
use Rattle.psabi.specs.Results.{outcome_of, registers_of_result}
use Rattle.psabi.proofs.CallLemmas.{place-none, place-stack, place-registers}
use Rattle.psabi.proofs.LawLemmas.{step-some, rounded-above}

-- ---- one argument

more-than : (a b : ℕ) → nat_lt a b ≡ not (nat_le b a)
more-than a b = go (nat_lt a b) refl where
  go : (c : Bool) → nat_lt a b ≡ c → nat_lt a b ≡ not (nat_le b a)
  go true e = go-le (nat_le b a) refl where
    go-le : (d : Bool) → nat_le b a ≡ d → nat_lt a b ≡ not (nat_le b a)
    go-le false f = rw (e, f) refl
    go-le true f = let le = leb-true b a f in let lt = ltb-true a b e in absurd (omega (arith, le, lt))
  go false e = let le = ltb-false a b e in let f = le-leb b a le in rw (e, f) refl

or-not : (a b c : Bool) → (a || not b || not c) ≡ not (not a && (b && c))
or-not true b c = refl
or-not false true true = refl
or-not false true false = refl
or-not false false c = refl

-- an argument goes to the stack exactly where it does not fit
stack-or-fits : (t : ArgumentRegisters) (cs : List Class) → goes_to_stack t cs ≡ not (fits t.general t.vector cs)
unfolding goes_to_stack
stack-or-fits t cs =
    rw (more-than 6 (t.general + general_count cs), more-than 8 (t.vector + vector_count cs))
    (or-not (list_any is_stacked cs) (nat_le (t.general + general_count cs) 6) (nat_le (t.vector + vector_count cs) 8))

same-slots : (t : ArgumentRegisters) (cs : List Class) → argument_slots t cs ≡ slots_after t.general t.vector cs
unfolding argument_slots
same-slots t cs = refl

same-stack : (t : ArgumentRegisters) (a : Argument) → place.Stack (stack_offset t.stack a.align) (stack_size a.size) ≡ place.Stack (rounded t.stack (step_of a.align)) (rounded a.size 8)
unfolding stack_offset stack_size
same-stack t a = refl

place-counted : (t : ArgumentRegisters) (a : Argument) → place_in t a.size a.align a.classes ≡ place_after t.general t.vector t.stack a
place-counted t a = go (has_no_place a.size a.classes) (goes_to_stack t a.classes) refl refl where
  go : (x y : Bool) → has_no_place a.size a.classes ≡ x → goes_to_stack t a.classes ≡ y → place_in t a.size a.align a.classes ≡ place_after t.general t.vector t.stack a
  go true y none stack = (place-none t a.size a.align a.classes none).0 ∙ rw none refl
  go false true some stack =
      let not_fit : fits t.general t.vector a.classes ≡ false = not_is_true (fits t.general t.vector a.classes) (sym (stack-or-fits t a.classes) ∙ stack) in
      (place-stack t a.size a.align a.classes some stack).0 ∙ same-stack t a ∙ rw (some, not_fit) refl
  go false false some stack =
      let fit : fits t.general t.vector a.classes ≡ true = not_is_false (fits t.general t.vector a.classes) (sym (stack-or-fits t a.classes) ∙ stack) in
      (place-registers t a.size a.align a.classes some stack).0 ∙ ap place.Registers (same-slots t a.classes) ∙ rw (some, fit) refl

-- what is taken after an argument, by its place
record IsTakenBy (t w : ArgumentRegisters) (a : Argument) (p : Place) : Type 0 where
  general : w.general ≡ t.general + ints_taken a p
  vector : w.vector ≡ t.vector + floats_taken a p
  stack : w.stack ≡ max t.stack (end_of p)

taken-counted : (t : ArgumentRegisters) (a : Argument) → IsTakenBy t (taken_with t a.size a.align a.classes) a (place_in t a.size a.align a.classes)
taken-counted t a = go (has_no_place a.size a.classes) (goes_to_stack t a.classes) refl refl where
  go : (x y : Bool) → has_no_place a.size a.classes ≡ x → goes_to_stack t a.classes ≡ y → IsTakenBy t (taken_with t a.size a.align a.classes) a (place_in t a.size a.align a.classes)
  go true y none stack =
      let here = place-none t a.size a.align a.classes none in
      rw (here.0, here.1) (record { general = omega arith; vector = omega arith; stack = omega arith })
  go false true some stack =
      let here = place-stack t a.size a.align a.classes some stack in
      let above = rounded-above t.stack a.align in
      rw (here.0, here.1) (record { general = omega arith; vector = omega arith; stack = omega (arith, above) })
  go false false some stack =
      let here = place-registers t a.size a.align a.classes some stack in
      rw (here.0, here.1) (record { general = omega arith; vector = omega arith; stack = omega arith })

-- ---- arguments in order

same-counts : (a : Argument) (x x' y y' z z' : ℕ) → x ≡ x' → y ≡ y' → z ≡ z' → place_after x y z a ≡ place_after x' y' z' a
same-counts a x x' y y' z z' e f g = rw (e, f, g) refl

counted-from : (nodes : List PlainNode) (t : ArgumentRegisters) (params : List ℕ) (k : ℕ) (a : Argument) → slice_get (map (argument_at nodes) params) k ≡ Some a → slice_get (places nodes t params) k ≡ Some (place_after (t.general + ints_before (take k (map (argument_at nodes) params)) (take k (places nodes t params))) (t.vector + floats_before (take k (map (argument_at nodes) params)) (take k (places nodes t params))) (max t.stack (stack_before (take k (places nodes t params)))) a)
unfolding places ints_before floats_before stack_before
counted-from nodes t [] k a e = cc
counted-from nodes t (i ∷ params) zero a e =
    let same : argument_at nodes i ≡ a = cc in
    let here : place_of_node nodes t i ≡ place_after t.general t.vector t.stack (argument_at nodes i) = place-counted t (argument_at nodes i) in
    ap Some (here ∙ ap (place_after t.general t.vector t.stack) same ∙ same-counts a t.general (t.general + 0) t.vector (t.vector + 0) t.stack (max t.stack 0) (omega arith) (omega arith) (omega arith))
counted-from nodes t (i ∷ params) (suc k) a e =
    let w = taken_with_node nodes t i in
    let p = place_of_node nodes t i in
    let own = argument_at nodes i in
    let is : IsTakenBy t w own p = taken-counted t own in
    let args = take k (map (argument_at nodes) params) in
    let ps = take k (places nodes w params) in
    let later = counted-from nodes w params k a e in
    let same = same-counts a (w.general + ints_before args ps) (t.general + (ints_taken own p + ints_before args ps)) (w.vector + floats_before args ps) (t.vector + (floats_taken own p + floats_before args ps)) (max w.stack (stack_before ps)) (max t.stack (max (end_of p) (stack_before ps))) (omega (arith, is.general)) (omega (arith, is.vector)) (omega (arith, is.stack)) in
    later ∙ ap Some same

length-places : (nodes : List PlainNode) (t : ArgumentRegisters) (params : List ℕ) → length (places nodes t params) ≡ length (map (argument_at nodes) params)
unfolding places
length-places nodes t [] = refl
length-places nodes t (i ∷ params) = let later = length-places nodes (taken_with_node nodes t i) params in omega (arith, later)

result-counted : (o : Place) → ((registers_of_result o).general ≡ ints_of_result o) × ((registers_of_result o).vector ≡ 0) × ((registers_of_result o).stack ≡ 0)
result-counted place.Hidden = (refl, refl, refl)
result-counted place.Nothing = (refl, refl, refl)
result-counted (place.Registers slots) = (refl, refl, refl)
result-counted (place.Stack offset size) = (refl, refl, refl)

-- ---- calls

call-view : (nodes : List PlainNode) (f : ℕ) → (view_at nodes f).kind ≡ kind.Function → call_of_view nodes (view_at nodes f) ≡ call_of nodes f
unfolding call_of
call-view nodes f function = rw function refl

view-counted : (nodes : List PlainNode) (f : ℕ) → AreCounted (call_of_view nodes (view_at nodes f)).outcome (arguments_of nodes f) (call_of_view nodes (view_at nodes f)).params
view-counted nodes f =
    let o = outcome_of nodes (view_at nodes f) in
    let t = registers_of_result o in
    let params = params_of (view_at nodes f).parts in
    let start = result-counted o in
    record {
      many = length-places nodes t params;
      each = λ k a e.
          let args = take k (map (argument_at nodes) params) in
          let ps = take k (places nodes t params) in
          let here = counted-from nodes t params k a e in
          here ∙ ap Some (same-counts a (t.general + ints_before args ps) (ints_of_result o + ints_before args ps) (t.vector + floats_before args ps) (floats_before args ps) (max t.stack (stack_before ps)) (stack_before ps) (omega (arith, start.0)) (omega (arith, start.1)) (omega (arith, start.2)));
    }

pub places-counted : (nodes : List PlainNode) (f : ℕ) → (view_at nodes f).kind ≡ kind.Function → AreCounted (call_of nodes f).outcome (arguments_of nodes f) (call_of nodes f).params
places-counted nodes f function = subst (λ (call : CallShape). AreCounted call.outcome (arguments_of nodes f) call.params) (call-view nodes f function) (view-counted nodes f)

-- ---- no other places are counted

no_argument : Argument
no_argument = record { size = 0; align = 0; classes = [] }

take-same : (result : Place) (args : List Argument) (ps qs : List Place) → AreCounted result args ps → AreCounted result args qs → (k : ℕ) → k ≤ length args → take k ps ≡ take k qs
take-same result args ps qs one other zero le = refl
take-same result args ps qs one other (suc k) le =
    let before = take-same result args ps qs one other k (omega arith) in
    let a = get_or args k no_argument in
    let e : slice_get args k ≡ Some a = slice_get-get_or args k no_argument (omega arith) in
    let first = get_or_from_slice_get ps k (counted_place result (take k args) (take k ps) a) place.Nothing (one.each k a e) in
    let second = get_or_from_slice_get qs k (counted_place result (take k args) (take k qs) a) place.Nothing (other.each k a e) in
    let here : get_or ps k place.Nothing ≡ get_or qs k place.Nothing = first ∙ ap (λ (xs : List Place). counted_place result (take k args) xs a) before ∙ sym second in
    let many = one.many in
    let many' = other.many in
    let next = take_more_same ps qs k place.Nothing (omega (arith, many)) (omega (arith, many')) before here in
    let on : k + 1 ≡ suc k = omega arith in
    subst (λ (n : ℕ). take n ps ≡ take n qs) on next

counts-decide : (result : Place) (args : List Argument) (ps qs : List Place) → AreCounted result args ps → AreCounted result args qs → ps ≡ qs
counts-decide result args ps qs one other =
    let many = one.many in
    let many' = other.many in
    sym (take_all (length args) ps (omega (arith, many))) ∙ take-same result args ps qs one other (length args) (omega arith) ∙ take_all (length args) qs (omega (arith, many'))

pub counted-exactly : (nodes : List PlainNode) (f : ℕ) (ps : List Place) → (view_at nodes f).kind ≡ kind.Function → AreCounted (call_of nodes f).outcome (arguments_of nodes f) ps ↔ (ps ≡ (call_of nodes f).params)
counted-exactly nodes f ps function =
    let counted = places-counted nodes f function in (
      λ own. counts-decide (call_of nodes f).outcome (arguments_of nodes f) ps (call_of nodes f).params own counted,
      λ e. subst (λ (qs : List Place). AreCounted (call_of nodes f).outcome (arguments_of nodes f) qs) (sym e) counted,
    )

-- ---- the first multiple

first-from : (from step : ℕ) → 0 < step → IsFirstFrom from step (rounded from step)
first-from from step some =
    let q = (from + (step - 1)) / step in
    let whole = div-add-mod' (from + (step - 1)) step in
    let rest = mod-lt (from + (step - 1)) some in
    record {
      multiple = (q, refl);
      from_there = omega (arith, whole, rest, some);
      first = λ m le. elim (cases_lt m q) [
        | inl lt ↦
            let above : (m + 1) * step ≤ q * step = mul-le-mul_right step (omega (arith, lt)) in
            absurd (omega (arith, above, whole, le, some))
        | inr past ↦ mul-le-mul_right step past
      ];
    }

pub rounded-first : (from align : ℕ) → IsFirstFrom from (step_of align) (rounded from (step_of align))
rounded-first from align = first-from from (step_of align) (step-some align)

-- ---- places without gaps

whole-eights : (m : ℕ) → rounded (m * 8) 8 ≡ m * 8
whole-eights m =
    let whole = div-add-mod' (m * 8 + 7) 8 in
    let some : 0 < 8 = omega arith in
    let rest = mod-lt (m * 8 + 7) some in
    omega (arith, whole, rest)

small-offset : (m align : ℕ) → align < 16 → stack_offset (m * 8) align ≡ m * 8
unfolding stack_offset
small-offset m align lt = let small = lt-ltb align 16 lt in rw small (whole-eights m)

eights : (size : ℕ) → (m : ℕ) × (stack_size size ≡ m * 8)
unfolding stack_size
eights size = ((size + 7) / 8, refl)

offset-of : (t : ArgumentRegisters) (a : Argument) (offset size : ℕ) → place_in t a.size a.align a.classes ≡ place.Stack offset size → offset ≡ stack_offset t.stack a.align
offset-of t a offset size e = go (has_no_place a.size a.classes) (goes_to_stack t a.classes) refl refl where
  go : (x y : Bool) → has_no_place a.size a.classes ≡ x → goes_to_stack t a.classes ≡ y → offset ≡ stack_offset t.stack a.align
  go true y none stack = let other = (place-none t a.size a.align a.classes none).0 in cc
  go false true some stack =
      let here : place.Stack (stack_offset t.stack a.align) (stack_size a.size) ≡ place.Stack offset size = sym (place-stack t a.size a.align a.classes some stack).0 ∙ e in
      cc
  go false false some stack = let other = (place-registers t a.size a.align a.classes some stack).0 in cc

stays : (t : ArgumentRegisters) (align m : ℕ) → align < 16 → t.stack ≡ m * 8 → stack_offset t.stack align ≡ m * 8
stays t align m lt e = ap (λ (n : ℕ). stack_offset n align) e ∙ small-offset m align lt

record IsLevel (t w : ArgumentRegisters) (p : Place) : Type 0 where
  eights : (m : ℕ) × (w.stack ≡ m * 8)
  stack : w.stack ≡ t.stack + bytes_of p

small-taken : (t : ArgumentRegisters) (a : Argument) (m : ℕ) → a.align < 16 → t.stack ≡ m * 8 → IsLevel t (taken_with t a.size a.align a.classes) (place_in t a.size a.align a.classes)
small-taken t a m lt e = go (has_no_place a.size a.classes) (goes_to_stack t a.classes) refl refl where
  go : (x y : Bool) → has_no_place a.size a.classes ≡ x → goes_to_stack t a.classes ≡ y → IsLevel t (taken_with t a.size a.align a.classes) (place_in t a.size a.align a.classes)
  go true y none stack =
      let here = place-none t a.size a.align a.classes none in
      rw (here.0, here.1) (record { eights = (m, e); stack = omega arith })
  go false true some stack =
      let here = place-stack t a.size a.align a.classes some stack in
      let offset = stays t a.align m lt e in
      let bytes = eights a.size in
      rw (here.0, here.1) (record { eights = (m + bytes.0, omega (arith, offset, bytes.1)); stack = omega (arith, offset, e) })
  go false false some stack =
      let here = place-registers t a.size a.align a.classes some stack in
      rw (here.0, here.1) (record { eights = (m, e); stack = omega arith })

adds-up-from : (nodes : List PlainNode) (t : ArgumentRegisters) (params : List ℕ) (k m offset size : ℕ) → t.stack ≡ m * 8 → ((j : ℕ) (a : Argument) → j ≤ k → slice_get (map (argument_at nodes) params) j ≡ Some a → a.align < 16) → slice_get (places nodes t params) k ≡ Some (place.Stack offset size) → offset ≡ t.stack + bytes_before (take k (places nodes t params))
unfolding places bytes_before
adds-up-from nodes t [] k m offset size whole small e = cc
adds-up-from nodes t (i ∷ params) zero m offset size whole small e =
    let own = argument_at nodes i in
    let same : place_of_node nodes t i ≡ place.Stack offset size = cc in
    let at = offset-of t own offset size same in
    let here = stays t own.align m (small 0 own (omega arith) refl) whole in
    omega (arith, at, here, whole)
adds-up-from nodes t (i ∷ params) (suc k) m offset size whole small e =
    let own = argument_at nodes i in
    let w = taken_with_node nodes t i in
    let level : IsLevel t w (place_of_node nodes t i) = small-taken t own m (small 0 own (omega arith) refl) whole in
    let later = adds-up-from nodes w params k level.eights.0 offset size level.eights.1 (λ j a le f. small (suc j) a (omega (arith, le)) f) e in
    omega (arith, later, level.stack)

pub stack-adds-up : (nodes : List PlainNode) (f k offset size : ℕ) → (view_at nodes f).kind ≡ kind.Function → ((j : ℕ) (a : Argument) → j ≤ k → slice_get (arguments_of nodes f) j ≡ Some a → a.align < 16) → IsPlaceOf (call_of nodes f) k (place.Stack offset size) → offset ≡ bytes_before (take k (call_of nodes f).params)
stack-adds-up nodes f k offset size function small =
    let o = outcome_of nodes (view_at nodes f) in
    let t = registers_of_result o in
    let params = params_of (view_at nodes f).parts in
    let start = (result-counted o).2 in
    subst (λ (call : CallShape). IsPlaceOf call k (place.Stack offset size) → offset ≡ bytes_before (take k call.params)) (call-view nodes f function)
    (λ e. let sum = adds-up-from nodes t params k 0 offset size (omega (arith, start)) small e in omega (arith, sum, start))
