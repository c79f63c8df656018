-- Ranges of numbers: in another order, and joined images.
use Rattle.std.proofs.Common.{◌≡◌, ◌<◌, ◌+◌, ℕ, List, get_or, arith, ◌∙◌, suc, [], ◌∷◌, ◌++◌, ap, append-nil}
use Rattle.std.specs.Prelude.{All, IsPermutation}
use Rattle.std.specs.List.{range_with_len, flat_map}
use Rattle.std.proofs.lemmas.List.Elements.{All-from_get_or}
use Rattle.std.proofs.lemmas.List.FromFn.{length-range_with_len, get_or-range_with_len}
use Rattle.std.proofs.lemmas.List.Sorted.{All-permutation}
use Rattle.std.proofs.lemmas.List.Concat.{flat_map-append}
use Rattle.abi_base.proofs.lemmas.Ranges.{range_more_to}

pub below_all : (n : ℕ) (places : List ℕ) → IsPermutation (range_with_len 0 n) places → All (λ (k : ℕ). k < n) places
below_all n places moved =
    All-permutation (λ (k : ℕ). k < n) (range_with_len 0 n) places moved
    (All-from_get_or (λ (k : ℕ). k < n) (range_with_len 0 n) 0 (λ k lt.
    let inside : k < n = rw (length-range_with_len 0 n) at lt in
    let here : get_or (range_with_len 0 n) k 0 ≡ 0 + k = get_or-range_with_len 0 n k 0 inside in
    omega (arith, here)))

pub flat_map-range_more : {A : Type 0} (f : ℕ → List A) (n : ℕ) → flat_map f (range_with_len 0 (suc n)) ≡ flat_map f (range_with_len 0 n) ++ f n
flat_map-range_more {A} f n =
    let p : suc n ≡ n + 1 = omega arith in
    ap (λ (m : ℕ). flat_map f (range_with_len 0 m)) p
    ∙ ap (flat_map f) (range_more_to 0 n n (omega arith))
    ∙ flat_map-append f (range_with_len 0 n) (n ∷ [])
    ∙ ap (λ (xs : List A). flat_map f (range_with_len 0 n) ++ xs) (append-nil (f n))
