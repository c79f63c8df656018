-- Numbers that stop at a greatest one.
use Rattle.std.proofs.Common.{◌≡◌, ℕ, zero, suc, ◌+◌, ◌*◌, ◌<◌, ◌≤◌, List, length, take, get_or, inl, inr, refl, sym, ◌∙◌, ap, arith}
use Rattle.std.specs.Prelude.{min, sum_by}
use Rattle.std.proofs.Math.Nat.{min-le_left, min-eq_left, min-eq_right, zero-min, zero-mul, mul_comm}
use Rattle.std.proofs.lemmas.Nat.{mul-le}
use Rattle.std.proofs.lemmas.List.{take_more}
use Rattle.std.proofs.lemmas.List.Sums.{sum_by_push}
use Rattle.std.proofs.lemmas.Bool.{cases_lt}

-- a capped number that is below the cap is the number itself
pub below_cap : (n m : ℕ) → min n m < m → min n m ≡ n
below_cap n m below = elim (cases_lt n m) [
  | inl lt ↦ min-eq_left (omega (arith, lt))
  | inr le ↦ absurd (let e : min n m ≡ m = min-eq_right le in omega (arith, e, below))
]

-- what fits into less than the cap
pub fits_below : (n m most taken : ℕ) → taken + min n m ≤ most → most < m → min n m ≡ n
fits_below n m most taken fits small = below_cap n m (omega (arith, fits, small))

-- what passes a bound also passes it without the cap
pub above_cap : (n m most taken : ℕ) → most < taken + min n m → most < taken + n
above_cap n m most taken above = omega (arith, above, min-le_left n m)

-- a sum may be capped at each step
pub capped_more : (a b m : ℕ) → min (min a m + b) m ≡ min (a + b) m
capped_more a b m = elim (cases_lt a m) [
  | inl a_in ↦
      let a_is : min a m ≡ a = min-eq_left (omega (arith, a_in)) in
      rw a_is refl
  | inr a_out ↦
      let a_is : min a m ≡ m = min-eq_right a_out in
      min-eq_right (omega (arith, a_is)) ∙ sym (min-eq_right (omega (arith, a_out)))
]

pub capped_sum : (a b m : ℕ) → min (min a m + min b m) m ≡ min (a + b) m
capped_sum a b m =
    let turn : min a m + min b m ≡ min b m + min a m = omega arith in
    let back : b + min a m ≡ min a m + b = omega arith in
    ap (λ (n : ℕ). min n m) turn ∙ capped_more b (min a m) m ∙ ap (λ (n : ℕ). min n m) back ∙ capped_more a b m

-- and so may a product, where one may be capped
at_cap : (a b m : ℕ) → 0 < m → m ≤ b → min (min a m * min b m) m ≡ min (a * b) m
at_cap zero b m some out =
    let none : min 0 m * min b m ≡ 0 * b = ap (λ (n : ℕ). n * min b m) (zero-min m) ∙ zero-mul (min b m) ∙ sym (zero-mul b) in
    ap (λ (n : ℕ). min n m) none
at_cap (suc a) b m some out =
    let b_is : min b m ≡ m = min-eq_right out in
    let one : 1 ≤ min (suc a) m = elim (cases_lt (suc a) m) [
      | inl lt ↦ (let e : min (suc a) m ≡ suc a = min-eq_left (omega (arith, lt)) in omega (arith, e))
      | inr ge ↦ (let e : min (suc a) m ≡ m = min-eq_right ge in omega (arith, e, some))
    ] in
    let capped : m ≤ min (suc a) m * min b m = omega (arith, mul-le 1 m (min (suc a) m) (min b m) one (omega (arith, b_is))) in
    let whole : m ≤ suc a * b = omega (arith, mul-le 1 m (suc a) b (omega arith) out) in
    min-eq_right capped ∙ sym (min-eq_right whole)

pub capped_times : (a b m : ℕ) → 0 < m → min (min a m * min b m) m ≡ min (a * b) m
capped_times a b m some = elim (cases_lt b m) [
  | inl b_in ↦ elim (cases_lt a m) [
    | inl a_in ↦
        let a_is : min a m ≡ a = min-eq_left (omega (arith, a_in)) in
        let b_is : min b m ≡ b = min-eq_left (omega (arith, b_in)) in
        rw (a_is, b_is) refl
    | inr a_out ↦ ap (λ (n : ℕ). min n m) (mul_comm (min a m) (min b m)) ∙ at_cap b a m some a_out ∙ ap (λ (n : ℕ). min n m) (mul_comm b a)
  ]
  | inr b_out ↦ at_cap a b m some b_out
]

-- a cap below another cap
pub capped_lower : (n m least : ℕ) → least ≤ m → min (min n m) least ≡ min n least
capped_lower n m least le = elim (cases_lt n m) [
  | inl lt ↦
      let e : min n m ≡ n = min-eq_left (omega (arith, lt)) in
      rw e refl
  | inr ge ↦
      let e : min n m ≡ m = min-eq_right ge in
      rw e (min-eq_right le ∙ sym (min-eq_right (omega (arith, ge, le))))
]

-- the sum over one more item
pub capped_step : {A : Type 0} (cost : A → ℕ) (items : List A) (i : ℕ) (d : A) (so_far here next m : ℕ) → i < length items → so_far ≡ min (sum_by cost (take i items)) m
    → here ≡ min (cost (get_or items i d)) m → next ≡ min (so_far + here) m → next ≡ min (sum_by cost (take (i + 1) items)) m
capped_step {A} cost items i d so_far here next m inside was is grown =
    let more : sum_by cost (take (i + 1) items) ≡ sum_by cost (take i items) + cost (get_or items i d) =
    ap (λ (l : List A). sum_by cost l) (take_more items i d inside) ∙ sum_by_push cost (take i items) (get_or items i d) in
    grown ∙ rw (was, is) (capped_sum (sum_by cost (take i items)) (cost (get_or items i d)) m) ∙ ap (λ (n : ℕ). min n m) (sym more)
