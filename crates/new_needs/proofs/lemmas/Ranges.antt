-- Lists that are made of numbers in a row.
use Rattle.std.proofs.Common.{◌≡◌, ◌<◌, ◌+◌, ◌∙◌, ℕ, zero, suc, List, ◌++◌, refl, ap, arith}
use Rattle.std.specs.List.{flat_map, range_with_len}

-- functions that give the same of each number of a row give the same list
pub flat_map-same : {X : Type 0} (f g : ℕ → List X) (a n : ℕ) → ((k : ℕ) → k < a + n → f k ≡ g k) → flat_map f (range_with_len a n) ≡ flat_map g (range_with_len a n)
flat_map-same f g a zero same = refl
flat_map-same f g a (suc n) same =
    ap (λ (xs : List _). xs ++ flat_map f (range_with_len (a + 1) n)) (same a (omega arith)) ∙ ap (λ (xs : List _). g a ++ xs) (flat_map-same f g (a + 1) n (λ k lt. same k (omega arith)))
