-- What stands in lists.
use Rattle.std.proofs.Common.{◌≡◌, ◌<◌, ℕ, zero, suc, List, [], ◌∷◌, length, get_or, refl, sym, inl, inr, ◌⊎◌}
use Rattle.std.specs.Prelude.{Contains}
use Rattle.std.proofs.lemmas.List.{get_or_default}
use Rattle.abi_base.proofs.lemmas.Contained.{at_front, in_rest}

pub get-cases : {X : Type 0} (xs : List X) (k : ℕ) (d : X) → Contains xs (get_or xs k d) ⊎ (get_or xs k d ≡ d)
get-cases [] k d = inr refl
get-cases (x ∷ xs) zero d = inl (at_front x xs)
get-cases (x ∷ xs) (suc k) d = elim (get-cases xs k d) [ inl there ↦ inl (in_rest x xs (get_or xs k d) there) | inr past ↦ inr past ]

-- what stands in a list of numbers at a place
pub at-place : (xs : List ℕ) (k : ℕ) → k < length xs → Contains xs (get_or xs k 0)
at-place xs k lt = (k, lt, sym (get_or_default xs k 0 (get_or xs k 0) lt))
