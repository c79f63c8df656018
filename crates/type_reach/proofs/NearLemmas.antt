-- Bits that are near 0.
use Rattle.std.proofs.Common.{◌<◌, ◌≤◌, ◌+◌, ℕ, arith}
use Rattle.std.specs.Prelude.{All, List, [], ◌∷◌, ℤ, ◌+ℤ◌, Option, Some, None, IfSome}
use Rattle.std.specs.Int.{int_min, int_max}
use Rattle.std.proofs.lemmas.Int.{ints, clamps}
use Rattle.type_reach.specs.declared.facts.Facts.{Facts}
use Rattle.type_reach.specs.declared.facts.Span.{Span}
use Rattle.type_reach.specs.Placement.{IsNear}
use Rattle.type_reach.specs.declared.role.Role.{Role}
use Rattle.type_reach.specs.declared.role.Role.TheVariants as role
use Rattle.type_reach.specs.Facts.{joined, nothing, first_of, span_in, IsSpanNear}

pub near-more : (n m : ℕ) (bit : ℤ) → n ≤ m → IsNear n bit → IsNear m bit
near-more n m bit le near =
    let b = near.below in
    let a = near.above_ in
    record { below = omega (arith, ints); above_ = omega (arith, ints) }

pub near-sum : (n m : ℕ) (a b : ℤ) → IsNear n a → IsNear m b → IsNear (n + m) (a +ℤ b)
near-sum n m a b near_a near_b =
    let a_low = near_a.below in
    let a_high = near_a.above_ in
    let b_low = near_b.below in
    let b_high = near_b.above_ in
    record { below = omega (arith, ints); above_ = omega (arith, ints) }

pub near-min : (n : ℕ) (a b : ℤ) → IsNear n a → IsNear n b → IsNear n (int_min a b)
near-min n a b near_a near_b = record { below = omega (arith, ints, clamps); above_ = omega (arith, ints, clamps) }

pub near-max : (n : ℕ) (a b : ℤ) → IsNear n a → IsNear n b → IsNear n (int_max a b)
near-max n a b near_a near_b = record { below = omega (arith, ints, clamps); above_ = omega (arith, ints, clamps) }

-- both ends of what is joined are near
abbrev pub NearLow : ℕ → Option Span → Type 0
NearLow n s = IfSome s (λ (x : Span). IsNear n x.low)

abbrev pub NearHigh : ℕ → Option Span → Type 0
NearHigh n s = IfSome s (λ (x : Span). IsNear n x.high)

pub joined-low : (n : ℕ) (a b : Option Span) → NearLow n a → NearLow n b → NearLow n (joined a b)
joined-low n None b near_a near_b = near_b
joined-low n (Some a) None near_a near_b = near_a
joined-low n (Some a) (Some b) near_a near_b = near-min n a.low b.low near_a near_b

pub joined-high : (n : ℕ) (a b : Option Span) → NearHigh n a → NearHigh n b → NearHigh n (joined a b)
joined-high n None b near_a near_b = near_b
joined-high n (Some a) None near_a near_b = near_a
joined-high n (Some a) (Some b) near_a near_b = near-max n a.high b.high near_a near_b

pub low-more : (n m : ℕ) (s : Option Span) → n ≤ m → NearLow n s → NearLow m s
low-more n m None le near = near
low-more n m (Some s) le near = near-more n m s.low le near

pub high-more : (n m : ℕ) (s : Option Span) → n ≤ m → NearHigh n s → NearHigh m s
high-more n m None le near = near
high-more n m (Some s) le near = near-more n m s.high le near

-- the span of the first facts, if any
pub first-low : (n : ℕ) (facts : List Facts) → All IsSpanNear facts → All (λ (x : Facts). x.rank < n) facts → NearLow (n + 1) (first_of facts).span
first-low n [] near ranks = tt
first-low n (x ∷ xs) near ranks =
    let lt = ranks 0 nothing (omega arith) in
    low-more (x.rank + 1) (n + 1) x.span (omega (arith, lt)) (near 0 nothing (omega arith)).low

pub first-high : (n : ℕ) (facts : List Facts) → All IsSpanNear facts → All (λ (x : Facts). x.rank < n) facts → NearHigh (n + 1) (first_of facts).span
first-high n [] near ranks = tt
first-high n (x ∷ xs) near ranks =
    let lt = ranks 0 nothing (omega arith) in
    high-more (x.rank + 1) (n + 1) x.span (omega (arith, lt)) (near 0 nothing (omega arith)).high

pub passed-low : (k : Role) (n : ℕ) (facts : List Facts) (own : Option Span) → All IsSpanNear facts → All (λ (x : Facts). x.rank < n) facts → NearLow (n + 1) own → NearLow (n + 1) (span_in k facts own)
passed-low role.Wrapper n facts own near ranks near_own = first-low n facts near ranks
passed-low role.Aggregate n facts own near ranks near_own = near_own
passed-low role.Function n facts own near ranks near_own = near_own
passed-low role.Part n facts own near ranks near_own = near_own
passed-low role.Pointer n facts own near ranks near_own = near_own
passed-low role.Array n facts own near ranks near_own = near_own
passed-low role.Enumeration n facts own near ranks near_own = near_own
passed-low role.Base n facts own near ranks near_own = near_own
passed-low role.Unknown n facts own near ranks near_own = near_own

pub passed-high : (k : Role) (n : ℕ) (facts : List Facts) (own : Option Span) → All IsSpanNear facts → All (λ (x : Facts). x.rank < n) facts → NearHigh (n + 1) own → NearHigh (n + 1) (span_in k facts own)
passed-high role.Wrapper n facts own near ranks near_own = first-high n facts near ranks
passed-high role.Aggregate n facts own near ranks near_own = near_own
passed-high role.Function n facts own near ranks near_own = near_own
passed-high role.Part n facts own near ranks near_own = near_own
passed-high role.Pointer n facts own near ranks near_own = near_own
passed-high role.Array n facts own near ranks near_own = near_own
passed-high role.Enumeration n facts own near ranks near_own = near_own
passed-high role.Base n facts own near ranks near_own = near_own
passed-high role.Unknown n facts own near ranks near_own = near_own
