-- Numbers of facts, from the last one down.
use Rattle.std.proofs.Common.{◌≡◌, ◌<◌, ◌≤◌, ◌+◌, ◌-◌, ℕ, List, [], ◌∷◌, length, drop, get_or, sym, ◌∙◌, ap, arith}
use Rattle.std.proofs.lemmas.List.{at_drop_more, at_drop_all}

-- what a function of a list gives from a place on, by the item at the place before
pub drop-down : {X B : Type 0} (f : List X → B) (xs : List X) (k : ℕ) (x : X) → 0 < k → k ≤ length xs → x ≡ get_or xs (k - 1) x → f (drop (k - 1) xs) ≡ f (x ∷ drop k xs)
drop-down f xs k x some le is =
    let back : k - 1 + 1 ≡ k = omega arith in
    at_drop_more f xs (k - 1) x (omega arith) ∙ ap (λ j. f (get_or xs (k - 1) x ∷ drop j xs)) back ∙ ap (λ y. f (y ∷ drop k xs)) (sym is)

pub drop-none : {X B : Type 0} (f : List X → B) (xs : List X) → f (drop (length xs) xs) ≡ f []
drop-none f xs = at_drop_all f xs (length xs) (omega arith)
