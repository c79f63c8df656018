-- Laws of ranges of numbers.
use Rattle.std.proofs.Common.{ℕ, zero, suc, ap, arith, refl, List, ◌≡◌, ◌+◌, ◌∷◌, ◌++◌, [], ◌∙◌, sym}
use Rattle.std.specs.List.{range_with_len}
use Rattle.std.proofs.lemmas.List.{map-id}
use Rattle.std.proofs.lemmas.List.FromFn.{map-range_with_len_more}

pub range_more_to : (a n j : ℕ) → a + n ≡ j → range_with_len a (n + 1) ≡ range_with_len a n ++ j ∷ []
range_more_to a zero j e = let f : j ≡ a = omega arith in rw f refl
range_more_to a (suc n) j e =
    let later = range_more_to (a + 1) n j (omega arith) in
    let p : suc n + 1 ≡ suc (n + 1) = omega arith in
    rw p (ap (λ (xs : List ℕ). a ∷ xs) later)

pub range_suc : (a n : ℕ) → range_with_len a (suc n) ≡ range_with_len a n ++ (a + n) ∷ []
range_suc a zero = ap (λ k. k ∷ []) (omega arith)
range_suc a (suc n) =
    let e : a + 1 + n ≡ a + suc n = omega arith in
    ap (λ ks. a ∷ ks) (range_suc (a + 1) n ∙ ap (λ k. range_with_len (a + 1) n ++ k ∷ []) e)

pub below_more : (n : ℕ) → range_with_len 0 (n + 1) ≡ range_with_len 0 n ++ n ∷ []
below_more n = sym (map-id (range_with_len 0 (n + 1))) ∙ map-range_with_len_more (λ k. k) 0 n n (omega arith) ∙ ap (λ (ks : List ℕ). ks ++ n ∷ []) (map-id (range_with_len 0 n))

pub range_more : (a n : ℕ) → range_with_len a (n + 1) ≡ range_with_len a n ++ (a + n) ∷ []
range_more a zero =
    let e : a + 0 ≡ a = omega arith in
    rw e refl
range_more a (suc n) =
    let e : a + suc n ≡ a + 1 + n = omega arith in
    let k : suc n + 1 ≡ suc (n + 1) = omega arith in
    rw (k, e) (ap (λ (l : List ℕ). a ∷ l) (range_more (a + 1) n))
