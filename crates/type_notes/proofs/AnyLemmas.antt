-- Whether an item of a list passes a test, item by item.
use Rattle.std.proofs.Common.{◌≡◌, ◌<◌, ◌≤◌, ◌+◌, ◌∙◌, ℕ, Bool, false, List, length, take, get_or, ap, sym}
use Rattle.std.specs.List.{list_any}
use Rattle.std.proofs.lemmas.List.Folds.{list_any_more}
use Rattle.std.proofs.lemmas.List.{take_all}

-- one item more that does not pass
pub any_more : {X : Type 0} (p : X → Bool) (xs : List X) (k : ℕ) (d : X) → k < length xs → list_any p (take k xs) ≡ false → p (get_or xs k d) ≡ false → list_any p (take (k + 1) xs) ≡ false
any_more p xs k d lt so_far e = rw (list_any_more p xs k d lt, so_far) e

-- all of them
pub any_all : {X : Type 0} (p : X → Bool) (xs : List X) (k : ℕ) → length xs ≤ k → list_any p (take k xs) ≡ false → list_any p xs ≡ false
any_all p xs k past so_far = sym (ap (list_any p) (take_all k xs past)) ∙ so_far
