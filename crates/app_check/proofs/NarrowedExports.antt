-- Exports that are dropped or not used, place by place.
use Rattle.std.proofs.Common.{◌≡◌, ℕ, ◌+◌, ◌<◌, ◌≤◌, Bool, List, [], ◌∷◌, ◌++◌, length, take, get_or, refl, sym, ◌∙◌, ap, arith}
use Rattle.std.specs.Prelude.{not, ◌||◌}
use Rattle.std.proofs.lemmas.List.{take_more, take_all, length-take-le}
use Rattle.app_check.specs.Used.{narrowed}

joined : (ds us : List Bool) (d u : Bool) → length ds ≡ length us → narrowed (ds ++ d ∷ []) (us ++ u ∷ []) ≡ narrowed ds us ++ (d || not u) ∷ []
joined [] [] d u same = refl
joined [] (x ∷ us) d u same = absurd (omega arith)
joined (x ∷ ds) [] d u same = absurd (omega arith)
joined (x ∷ ds) (y ∷ us) d u same = ap (λ (l : List Bool). (x || not y) ∷ l) (joined ds us d u (omega arith))

pub narrowed_more : (ds us : List Bool) (i : ℕ) (a b : Bool) → i < length ds → length ds ≡ length us
    → narrowed (take (i + 1) ds) (take (i + 1) us) ≡ narrowed (take i ds) (take i us) ++ (get_or ds i a || not (get_or us i b)) ∷ []
narrowed_more ds us i a b inside same =
    let within : i < length us = omega arith in
    let even : length (take i ds) ≡ length (take i us) = length-take-le i ds (omega arith) ∙ sym (length-take-le i us (omega arith)) in
    ap (λ (l : List Bool). narrowed l (take (i + 1) us)) (take_more ds i a inside)
    ∙ ap (λ (l : List Bool). narrowed (take i ds ++ get_or ds i a ∷ []) l) (take_more us i b within)
    ∙ joined (take i ds) (take i us) (get_or ds i a) (get_or us i b) even

pub narrowed_all : (ds us : List Bool) (i : ℕ) → length ds ≤ i → length ds ≡ length us → narrowed (take i ds) (take i us) ≡ narrowed ds us
narrowed_all ds us i past same = ap (λ (l : List Bool). narrowed l (take i us)) (take_all i ds past) ∙ ap (λ (l : List Bool). narrowed ds l) (take_all i us (omega arith))

pub pushed_more : (ds us exports next : List Bool) (i : ℕ) (a b x : Bool) → i < length ds → length ds ≡ length us → exports ≡ narrowed (take i ds) (take i us) → next ≡ exports ++ x ∷ []
    → x ≡ (get_or ds i a || not (get_or us i b)) → next ≡ narrowed (take (i + 1) ds) (take (i + 1) us)
pushed_more ds us exports next i a b x inside same so_far grown is =
    grown ∙ ap (λ (l : List Bool). l ++ x ∷ []) so_far ∙ ap (λ (v : Bool). narrowed (take i ds) (take i us) ++ v ∷ []) is ∙ sym (narrowed_more ds us i a b inside same)
