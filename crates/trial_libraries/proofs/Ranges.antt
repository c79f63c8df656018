-- Bytes that functions of the numbers of a range make, one after the other.
use Rattle.std.proofs.Common.{◌≡◌, ℕ, zero, suc, ◌+◌, ◌*◌, ◌<◌, ◌≤◌, List, ◌++◌, length, append_assoc, append-nil, add-zero, add-one, length-append, sym, ap, ◌∙◌, refl, arith}
use Rattle.std.specs.List.{flat_map, range_with_len}

-- one more number at the end
pub flat_map-range_more : (f : ℕ → List ℕ) (a n : ℕ) → flat_map f (range_with_len a (suc n)) ≡ flat_map f (range_with_len a n) ++ f (a + n)
flat_map-range_more f a zero = rw (add-zero a, append-nil (f a)) refl
flat_map-range_more f a (suc n) =
    let at : a + 1 + n ≡ a + suc n = omega arith in
    let more = flat_map-range_more f (a + 1) n in
    ap (λ (xs : List ℕ). f a ++ xs) more ∙ sym (append_assoc (f a) (flat_map f (range_with_len (a + 1) n)) (f (a + 1 + n))) ∙ ap (λ (j : ℕ). (f a ++ flat_map f (range_with_len (a + 1) n)) ++ f j) at

-- a loop's step
pub pieces_more : (f : ℕ → List ℕ) (old now : List ℕ) (a n m j : ℕ) → now ≡ old ++ flat_map f (range_with_len a n) → a + n ≡ j → m ≡ n + 1 → now ++ f j ≡ old ++ flat_map f (range_with_len a m)
pieces_more f old now a n m j was at next =
    let more : flat_map f (range_with_len a m) ≡ flat_map f (range_with_len a n) ++ f j =
    ap (λ (k : ℕ). flat_map f (range_with_len a k)) (next ∙ add-one n) ∙ flat_map-range_more f a n ∙ ap (λ (k : ℕ). flat_map f (range_with_len a n) ++ f k) at in
    ap (λ (xs : List ℕ). xs ++ f j) was ∙ append_assoc old (flat_map f (range_with_len a n)) (f j) ∙ ap (λ (xs : List ℕ). old ++ xs) (sym more)

-- how long they are at most
pub length-flat_map-range-le : (f : ℕ → List ℕ) (c a n : ℕ) → ((i : ℕ) → a ≤ i → i < a + n → length (f i) ≤ c) → length (flat_map f (range_with_len a n)) ≤ c * n
length-flat_map-range-le f c a zero h = omega arith
length-flat_map-range-le f c a (suc n) h =
    let rest = length-flat_map-range-le f c (a + 1) n (λ i low high. h i (omega arith) (omega arith)) in
    let first = h a (omega arith) (omega arith) in
    omega (arith, length-append (f a) (flat_map f (range_with_len (a + 1) n)))
