-- Which functions units have.
use Rattle.std.proofs.Common.{◌≡◌, ℕ, zero, suc, ◌+◌, ◌-◌, ◌*◌, ◌<◌, ◌≤◌, ◌⊎◌, inl, inr, min, List, ◌∷◌, ◌++◌, append-nil, refl, ap, ◌∙◌, arith}
use Rattle.std.proofs.lemmas.Bool.{cases_lt}
use Rattle.std.specs.List.{flat_map, range_with_len}
use Rattle.trial_libraries.specs.Units.{functions_of, unit_count}
use Rattle.trial_libraries.proofs.Ranges.{flat_map-range_more}

-- two ranges that meet
range-append : (a m k b n : ℕ) → a + m ≡ b → m + k ≡ n → range_with_len a m ++ range_with_len b k ≡ range_with_len a n
range-append a zero k b n at len =
    let here : b ≡ a = omega arith in
    let long : k ≡ n = omega arith in
    ap (λ (x : ℕ). range_with_len x k) here ∙ ap (range_with_len a) long
range-append a (suc m) k b n at len =
    let long : suc (m + k) ≡ n = omega arith in
    let rest = range-append (a + 1) m k b (m + k) (omega arith) refl in
    ap (λ (xs : List ℕ). a ∷ xs) rest ∙ ap (range_with_len a) long

one_more : (n m : ℕ) → (n < 100 * m) ⊎ (100 * m ≤ n) → range_with_len 0 (min n (100 * m)) ++ functions_of n m ≡ range_with_len 0 (min n (100 * suc m))
one_more n m (inl past) =
    let none : min 100 (n - 100 * m) ≡ 0 = omega arith in
    let same : min n (100 * m) ≡ min n (100 * suc m) = omega arith in
    ap (λ (k : ℕ). range_with_len 0 (min n (100 * m)) ++ range_with_len (100 * m) k) none ∙ append-nil (range_with_len 0 (min n (100 * m))) ∙ ap (range_with_len 0) same
one_more n m (inr left) = range-append 0 (min n (100 * m)) (min 100 (n - 100 * m)) (100 * m) (min n (100 * suc m)) (omega arith) (omega arith)

-- the functions of the first m units
first_units : (n m : ℕ) → flat_map (functions_of n) (range_with_len 0 m) ≡ range_with_len 0 (min n (100 * m))
first_units n zero = let none : 0 ≡ min n 0 = omega arith in ap (range_with_len 0) none
first_units n (suc m) =
    let at : 0 + m ≡ m = omega arith in
    flat_map-range_more (functions_of n) 0 m ∙ ap (λ (j : ℕ). flat_map (functions_of n) (range_with_len 0 m) ++ functions_of n j) at
    ∙ ap (λ (xs : List ℕ). xs ++ functions_of n m) (first_units n m) ∙ one_more n m (cases_lt n (100 * m))

pub each_function_once : (n : ℕ) → flat_map (functions_of n) (range_with_len 0 (unit_count n)) ≡ range_with_len 0 n
each_function_once n =
    let all : min n (100 * unit_count n) ≡ n = omega arith in
    first_units n (unit_count n) ∙ ap (range_with_len 0) all
