-- Lists made from the numbers below a bound, as loops make them.
use Rattle.std.proofs.Common.{◌≡◌, ◌<◌, ℕ, zero, suc, ◌+◌, Bool, true, false, List, [], ◌∷◌, ◌++◌, map, get_or, sym, ◌∙◌, ap, arith, append-nil, append_assoc}
use Rattle.std.specs.List.{filter, list_all, range_with_len}
use Rattle.std.proofs.lemmas.List.{map-append}
use Rattle.std.proofs.lemmas.List.Elements.{filter-append}
use Rattle.std.proofs.lemmas.List.Folds.{list_all_at}
use Rattle.std.proofs.lemmas.List.FromFn.{length-range_with_len, get_or-range_with_len, map-range_with_len_more}
use Rattle.std.proofs.lemmas.List.Sums.{list_all-from_AllPass, AllPass-from_list_all}
use Rattle.abi_base.proofs.lemmas.Ranges.{range_suc, below_more}

-- a loop that pushes what a function gives, one number on
pub map-more : {X : Type 0} (f : ℕ → X) (n : ℕ) (list more : List X) (x : X) → list ≡ map f (range_with_len 0 n) → more ≡ list ++ x ∷ [] → x ≡ f n → more ≡ map f (range_with_len 0 (n + 1))
map-more f n list more x so_far pushed is = pushed ∙ ap (λ y. list ++ y ∷ []) is ∙ ap (λ ys. ys ++ f n ∷ []) so_far ∙ sym (map-range_with_len_more f 0 n n (omega arith))

filter-more : {X : Type 0} (h : ℕ → X) (p : ℕ → Bool) (n : ℕ) → map h (filter p (range_with_len 0 (n + 1))) ≡ map h (filter p (range_with_len 0 n)) ++ map h (filter p (n ∷ []))
filter-more h p n = ap (λ ks. map h (filter p ks)) (below_more n) ∙ ap (map h) (filter-append p (range_with_len 0 n) (n ∷ [])) ∙ map-append h (filter p (range_with_len 0 n)) (filter p (n ∷ []))

-- a loop that pushes what passes, one number on
pub filter-more_pushed : {X : Type 0} (h : ℕ → X) (p : ℕ → Bool) (n : ℕ) (base list more : List X) → list ≡ base ++ map h (filter p (range_with_len 0 n)) → p n ≡ true → more ≡ list ++ h n ∷ [] → more ≡ base ++ map h (filter p (range_with_len 0 (n + 1)))
filter-more_pushed h p n base list more so_far passes pushed =
    let step = filter-more h p n in
    let step' = rw passes at step in
    rw (step', pushed, so_far) (append_assoc base (map h (filter p (range_with_len 0 n))) (h n ∷ []))

-- where the number does not pass
pub filter-more_kept : {X : Type 0} (h : ℕ → X) (p : ℕ → Bool) (n : ℕ) (base list : List X) → list ≡ base ++ map h (filter p (range_with_len 0 n)) → p n ≡ false → list ≡ base ++ map h (filter p (range_with_len 0 (n + 1)))
filter-more_kept h p n base list so_far fails =
    let step = filter-more h p n in
    let step' = rw fails at step in
    rw (step', append-nil (map h (filter p (range_with_len 0 n)))) so_far

-- each number below the bound passes
pub list_all-below : (p : ℕ → Bool) (n : ℕ) → ((k : ℕ) → k < n → p k ≡ true) → list_all p (range_with_len 0 n) ≡ true
list_all-below p n each =
    list_all-from_AllPass p (range_with_len 0 n) (λ k d h.
    let inside : k < n = omega (arith, length-range_with_len 0 n) in
    let at : get_or (range_with_len 0 n) k d ≡ k = get_or-range_with_len 0 n k d inside ∙ omega arith in
    rw at (each k inside))

pub list_all-below_at : (p : ℕ → Bool) (n k : ℕ) → k < n → list_all p (range_with_len 0 n) ≡ true → p k ≡ true
list_all-below_at p n k inside all =
    let at : get_or (range_with_len 0 n) k 0 ≡ k = get_or-range_with_len 0 n k 0 inside ∙ omega arith in
    rw at at (AllPass-from_list_all p (range_with_len 0 n) all k 0 (omega (arith, length-range_with_len 0 n)))

-- one of them does not
pub list_all-below_fails : (p : ℕ → Bool) (n k : ℕ) → k < n → p k ≡ false → list_all p (range_with_len 0 n) ≡ false
list_all-below_fails p n k inside fails =
    let at : get_or (range_with_len 0 n) k 0 ≡ k = get_or-range_with_len 0 n k 0 inside ∙ omega arith in
    list_all_at p (range_with_len 0 n) k 0 (omega (arith, length-range_with_len 0 n)) (rw at fails)
