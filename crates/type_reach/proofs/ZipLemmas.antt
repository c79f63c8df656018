-- Two lists side by side, from the last place down.
use Rattle.std.proofs.Common.{◌≡◌, ◌<◌, ◌≤◌, ◌+◌, ◌-◌, ℕ, zero, suc, min, List, [], ◌∷◌, length, drop, get_or, refl, sym, ◌∙◌, ap, arith}
use Rattle.std.specs.Prelude.{zip}
use Rattle.std.proofs.lemmas.List.{at_drop_more, at_drop_all}

pub length-zip : {X Y : Type 0} (xs : List X) (ys : List Y) → length (zip xs ys) ≡ min (length xs) (length ys)
length-zip [] ys = omega arith
length-zip (x ∷ xs) [] = omega arith
length-zip (x ∷ xs) (y ∷ ys) = omega (arith, length-zip xs ys)

zip-at : {X Y : Type 0} (xs : List X) (ys : List Y) (k : ℕ) (a : X) (b : Y) → k < length xs → k < length ys → get_or (zip xs ys) k (a, b) ≡ (get_or xs k a, get_or ys k b)
zip-at [] ys k a b lt_x lt_y = absurd (omega arith)
zip-at (x ∷ xs) [] k a b lt_x lt_y = absurd (omega arith)
zip-at (x ∷ xs) (y ∷ ys) zero a b lt_x lt_y = refl
zip-at (x ∷ xs) (y ∷ ys) (suc k) a b lt_x lt_y = zip-at xs ys k a b (omega arith) (omega arith)

-- what a function of a list gives of both, from a place on, by the place before
pub zip-down : {X Y B : Type 0} (f : List (X × Y) → B) (xs : List X) (ys : List Y) (k : ℕ) (a : X) (b : Y) → 0 < k → k ≤ length xs → k ≤ length ys
    → a ≡ get_or xs (k - 1) a → b ≡ get_or ys (k - 1) b → f (drop (k - 1) (zip xs ys)) ≡ f ((a, b) ∷ drop k (zip xs ys))
zip-down f xs ys k a b some le_x le_y is_a is_b =
    let back : k - 1 + 1 ≡ k = omega arith in
    at_drop_more f (zip xs ys) (k - 1) (a, b) (omega (arith, length-zip xs ys))
    ∙ ap (λ j. f (get_or (zip xs ys) (k - 1) (a, b) ∷ drop j (zip xs ys))) back
    ∙ ap (λ p. f (p ∷ drop k (zip xs ys))) (zip-at xs ys (k - 1) a b (omega arith) (omega arith))
    ∙ ap (λ x. f ((x, get_or ys (k - 1) b) ∷ drop k (zip xs ys))) (sym is_a)
    ∙ ap (λ y. f ((a, y) ∷ drop k (zip xs ys))) (sym is_b)

pub zip-none : {X Y B : Type 0} (f : List (X × Y) → B) (xs : List X) (ys : List Y) (k : ℕ) → min (length xs) (length ys) ≤ k → f (drop k (zip xs ys)) ≡ f []
zip-none f xs ys k past = at_drop_all f (zip xs ys) k (omega (arith, length-zip xs ys))
