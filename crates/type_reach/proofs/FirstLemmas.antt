-- The first fault of a row over the reached entries.
use Rattle.std.proofs.Common.{◌≡◌, ◌<◌, ◌≤◌, ◌+◌, ℕ, zero, suc, Bool, true, List, length, map, Option, Some, None, refl, sym, ◌∙◌, ap, arith, inl, inr}
use Rattle.std.specs.Prelude.{Contains, filter}
use Rattle.std.specs.List.{range_with_len}
use Rattle.std.proofs.lemmas.Bool.{cases_Bool, cases_lt}
use Rattle.abi_base.specs.declared.fault.Fault.{Fault}
use Rattle.abi_base.specs.declared.fault.FaultKind.TheVariants as fault
use Rattle.abi_base.specs.Outcome.{first}
use Rattle.dwarf_tree.specs.Trees.{PlainTree}
use Rattle.abi_base.specs.Limits.{depth_limit}
use Rattle.type_reach.specs.Reached.{IsReached, IsWalk}
use Rattle.type_reach.specs.ReachedList.{is_reached, reached_of}
use Rattle.type_reach.specs.ByValue.{IsTooDeep}
use Rattle.type_reach.specs.Facts.{IsFirstTooDeep}
use Rattle.type_reach.specs.Faults.{steps_on, deep_fault, depth_fault, at_entry}
use Rattle.type_reach.proofs.ReachedLemmas.{is_reached-is}
use Rattle.type_reach.proofs.OrderLemmas.{steps_on-is}

first-filtered : (p : ℕ → Bool) (g : ℕ → Option Fault) (a n e : ℕ) (f : Fault) → a ≤ e → e < a + n → p e ≡ true → g e ≡ Some f → ((i : ℕ) → i < e → p i ≡ true → g i ≡ None) → first (map g (filter p (range_with_len a n))) ≡ Some f
first-filtered p g a zero e f from below pe ge before = absurd (omega arith)
first-filtered p g a (suc n) e f from below pe ge before =
    elim (cases_lt a e) [
      | inl lt ↦
          let later = first-filtered p g (a + 1) n e f (omega arith) (omega arith) pe ge before in
          elim (cases_Bool (p a)) [ inl kept ↦ let none = before a lt kept in rw (kept, none) later | inr passed ↦ rw passed later ]
      | inr ge' ↦
          let same : a ≡ e = omega arith in
          let pa : p a ≡ true = ap p same ∙ pe in
          let ga : g a ≡ Some f = ap g same ∙ ge in
          rw (pa, ga) refl
    ]

none-filtered : (p : ℕ → Bool) (g : ℕ → Option Fault) (a n : ℕ) → ((i : ℕ) → p i ≡ true → g i ≡ None) → first (map g (filter p (range_with_len a n))) ≡ None
none-filtered p g a zero none = refl
none-filtered p g a (suc n) none =
    let later = none-filtered p g (a + 1) n none in
    elim (cases_Bool (p a)) [ inl kept ↦ let here = none a kept in rw (kept, here) later | inr passed ↦ rw passed later ]

deep_fault-none : (t : PlainTree) (e : ℕ) → (IsTooDeep t (Some e) → ⊥) → deep_fault t e ≡ None
unfolding deep_fault
deep_fault-none t e shallow =
    elim (cases_Bool (steps_on t (depth_limit + 1) (Some e))) [ inl on ↦ absurd (shallow ((steps_on-is t (depth_limit + 1) (Some e)).0 on)) | inr off ↦ rw off refl ]

deep_fault-some : (t : PlainTree) (e : ℕ) → IsTooDeep t (Some e) → deep_fault t e ≡ Some (record { kind = fault.TooDeep; at = at_entry t e })
unfolding deep_fault
deep_fault-some t e deep = let on = (steps_on-is t (depth_limit + 1) (Some e)).1 deep in rw on refl

-- fault 36 of the reached entries stands at the first one from which too many steps lead on
pub first-deep-is : (t : PlainTree) (roots : List ℕ) (e : ℕ) → ((r : ℕ) → Contains roots r → r < length t.entries) → e < length t.entries → IsReached t roots e → IsTooDeep t (Some e)
    → ((f : ℕ) → IsReached t roots f → f < e → IsTooDeep t (Some f) → ⊥) → first (map (deep_fault t) (reached_of t roots)) ≡ Some (record { kind = fault.TooDeep; at = at_entry t e })
unfolding reached_of
first-deep-is t roots e inside below reached deep before =
    first-filtered (is_reached t roots) (deep_fault t) 0 (length t.entries) e (record { kind = fault.TooDeep; at = at_entry t e }) (omega arith) (omega (arith, below)) ((is_reached-is t roots inside e).1 reached) (deep_fault-some t e deep)
    (λ i lt kept. deep_fault-none t i (before i ((is_reached-is t roots inside i).0 kept) lt))

pub none-deep-is : (t : PlainTree) (roots : List ℕ) → ((r : ℕ) → Contains roots r → r < length t.entries) → ((f : ℕ) → IsReached t roots f → IsTooDeep t (Some f) → ⊥) → first (map (deep_fault t) (reached_of t roots)) ≡ None
unfolding reached_of
none-deep-is t roots inside none = none-filtered (is_reached t roots) (deep_fault t) 0 (length t.entries) (λ i kept. deep_fault-none t i (none i ((is_reached-is t roots inside i).0 kept)))

-- ---- by what a walk found

pub depth-some : (t : PlainTree) (roots found : List ℕ) (e at : ℕ) → ((r : ℕ) → Contains roots r → r < length t.entries) → IsWalk t roots found → e < length t.entries → IsFirstTooDeep t found e → at ≡ at_entry t e
    → depth_fault t roots ≡ Some (record { kind = fault.TooDeep; at = at })
unfolding depth_fault
depth-some t roots found e at inside walk below first is =
    first-deep-is t roots e inside below ((walk.exact e).0 first.there) first.deep (λ f reached lt. first.first f ((walk.exact f).1 reached) lt)
    ∙ ap (λ a. Some (record { kind = fault.TooDeep; at = a })) (sym is)

pub depth-none : (t : PlainTree) (roots found : List ℕ) → ((r : ℕ) → Contains roots r → r < length t.entries) → IsWalk t roots found → ((e : ℕ) → Contains found e → IsTooDeep t (Some e) → ⊥) → depth_fault t roots ≡ None
unfolding depth_fault
depth-none t roots found inside walk none = none-deep-is t roots inside (λ f reached. none f ((walk.exact f).1 reached))
