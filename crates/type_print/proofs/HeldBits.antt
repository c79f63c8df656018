-- Bits that members hold, and the next one.
use Rattle.std.proofs.Common.{◌≡◌, ◌<◌, ◌≤◌, ◌+◌, ℕ, Bool, true, false, List, [], ◌∷◌, Some, None, ◌⊎◌, inl, inr, refl, sym, ap, subst, arith}
use Rattle.std.specs.Prelude.{nat_lt}
use Rattle.std.specs.List.{AllPairs, Contains}
use Rattle.std.proofs.lemmas.Bool.{ltb-true, ltb-false}
use Rattle.abi_base.proofs.lemmas.Contained.{in_none, in_front, at_front, in_rest}
use Rattle.type_print.specs.declared.extent.Extent.{Extent}
use Rattle.type_print.specs.Members.{Holds, IsHeld}
use Rattle.type_print.specs.Sweeps.{next_bit, Follows}
use Rattle.type_print.proofs.ListLemmas.{pairs_head, pairs_tail}

pub held_none : (x : ℕ) → IsHeld [] x → ⊥
held_none x held = in_none held.member held.there

pub held_head : (e : Extent) (es : List Extent) (x : ℕ) → Holds e x → IsHeld (e ∷ es) x
held_head e es x holds = record { member = e; there = at_front e es; holds = holds }

pub held_tail : (e : Extent) (es : List Extent) (x : ℕ) → IsHeld es x → IsHeld (e ∷ es) x
held_tail e es x held = record { member = held.member; there = in_rest e es held.member held.there; holds = held.holds }

pub held_cases : (e : Extent) (es : List Extent) (x : ℕ) → IsHeld (e ∷ es) x → Holds e x ⊎ IsHeld es x
held_cases e es x held = elim (in_front e es held.member held.there) [
  | inl same ↦ inl (subst (λ (m : Extent). Holds m x) (sym same) held.holds)
  | inr rest ↦ inr (record { member = held.member; there = rest; holds = held.holds })
]

-- the bits below the next one are free, and that one is held
pub record IsNext (left : List Extent) (bit : ℕ) : Type 0 where
  pub lowest : (a : Extent) → Contains left a → 0 < a.width → bit ≤ a.bit
  pub held : IsHeld left bit
  pub there : (a : Extent) × Contains left a × (a.bit ≡ bit)

pub next_is : (left : List Extent) (bit : ℕ) → AllPairs Follows left → next_bit left ≡ Some bit → IsNext left bit
next_is [] bit follow is = absurd (cc)
next_is (e ∷ es) bit follow is = go (λ given. next_is es bit (pairs_tail Follows e es follow) given) (nat_lt 0 e.width) refl where
  go : (next_bit es ≡ Some bit → IsNext es bit) → (b : Bool) → nat_lt 0 e.width ≡ b → IsNext (e ∷ es) bit
  go further true some =
      let same : e.bit ≡ bit = let given = rw some at is in cc in
      let wide : 0 < e.width = ltb-true 0 e.width some in
      record {
        lowest = λ a there positive. elim (in_front e es a there) [
          | inl here ↦ let eq : e.bit ≡ a.bit = ap (λ (m : Extent). m.bit) here in omega arith
          | inr rest ↦ let clear : e.bit + e.width ≤ a.bit = (pairs_head Follows e es follow a rest).clear wide positive in omega arith
        ];
        held = held_head e es bit (record { from = omega arith; below = omega arith });
        there = (e, at_front e es, same);
      }
  go further false none =
      let given : next_bit es ≡ Some bit = rw none at is in
      let next = further given in
      let most : e.width ≤ 0 = ltb-false 0 e.width none in
      let empty : e.width ≡ 0 = omega arith in
      record {
        lowest = λ a there positive. elim (in_front e es a there) [
          | inl here ↦ let eq : e.width ≡ a.width = ap (λ (m : Extent). m.width) here in absurd (omega arith)
          | inr rest ↦ next.lowest a rest positive
        ];
        held = held_tail e es bit next.held;
        there = (next.there.0, in_rest e es next.there.0 next.there.1, next.there.2);
      }

-- no member holds a bit
pub next_none : (left : List Extent) → next_bit left ≡ None → (a : Extent) → Contains left a → 0 < a.width → ⊥
next_none [] is a there positive = in_none a there
next_none (e ∷ es) is a there positive = go (λ given rest. next_none es given a rest positive) (nat_lt 0 e.width) refl where
  go : (next_bit es ≡ None → Contains es a → ⊥) → (b : Bool) → nat_lt 0 e.width ≡ b → ⊥
  go further true some = let given = rw some at is in cc
  go further false none =
      let given : next_bit es ≡ None = rw none at is in
      let most : e.width ≤ 0 = ltb-false 0 e.width none in
      let empty : e.width ≡ 0 = omega arith in
      elim (in_front e es a there) [
        | inl here ↦ let eq : e.width ≡ a.width = ap (λ (m : Extent). m.width) here in omega arith
        | inr rest ↦ further given rest
      ]

pub wide_one : (a : Extent) (x : ℕ) → Holds a x → 0 < a.width
wide_one a x holds = let from = holds.from in let below = holds.below in omega arith
