-- Lists of numbers.
use Rattle.std.proofs.Common.{◌≡◌, ℕ, zero, suc, ◌+◌, ◌<◌, Bool, true, false, List, [], ◌∷◌, ◌++◌, map, refl, sym, ◌∙◌, ap, arith}
use Rattle.std.specs.List.{range_with_len, list_any}
use Rattle.std.proofs.lemmas.List.Folds.{list_any-append}
use Rattle.std.proofs.lemmas.List.FromFn.{map-range_with_len_more}
use Rattle.abi_base.proofs.lemmas.Ranges.{below_more}
use Rattle.abi_base.proofs.lemmas.Bools.{or_true}

any_along : (p : ℕ → Bool) (a n j : ℕ) → j < n → p (a + j) ≡ true → list_any p (range_with_len a n) ≡ true
any_along p a zero j lt here = absurd (omega arith)
any_along p a (suc n) zero lt here =
    let e : a + 0 ≡ a = omega arith in
    let at_once : p a ≡ true = rw e at here in
    rw at_once refl
any_along p a (suc n) (suc j) lt here =
    let e : a + suc j ≡ a + 1 + j = omega arith in
    let later : p (a + 1 + j) ≡ true = rw e at here in
    rw (any_along p (a + 1) n j (omega arith) later) (or_true (p a))

-- one number below n passes a test
pub any_at : (p : ℕ → Bool) (n j : ℕ) → j < n → p j ≡ true → list_any p (range_with_len 0 n) ≡ true
any_at p n j lt here =
    let e : 0 + j ≡ j = omega arith in
    any_along p 0 n j lt (ap p e ∙ here)

-- no number up to n passes a test
pub none_more : (p : ℕ → Bool) (n : ℕ) → list_any p (range_with_len 0 n) ≡ false → p n ≡ false → list_any p (range_with_len 0 (n + 1)) ≡ false
none_more p n before here =
    let split = list_any-append p (range_with_len 0 n) (n ∷ []) in
    ap (λ (l : List ℕ). list_any p l) (below_more n) ∙ split ∙ rw (before, here) refl

-- a list by numbers, with one more pushed
pub map_more : (f : ℕ → ℕ) (n : ℕ) (all more : List ℕ) (x : ℕ) → all ≡ map f (range_with_len 0 n) → x ≡ f n → more ≡ all ++ x ∷ [] → more ≡ map f (range_with_len 0 (n + 1))
map_more f n all more x so_far is grown =
    grown ∙ ap (λ (l : List ℕ). l ++ x ∷ []) so_far ∙ ap (λ (v : ℕ). map f (range_with_len 0 n) ++ v ∷ []) is ∙ sym (map-range_with_len_more f 0 n n (omega arith))
