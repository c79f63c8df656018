-- What a function gives of the numbers below a bound, in their order.
use Rattle.std.proofs.Common.{◌≡◌, ◌<◌, ℕ, zero, suc, ◌+◌, List, [], ◌∷◌, ◌++◌, Option, Some, None, length, slice_get, refl, ◌∙◌, ap, arith, add-one, inl, inr, append-nil}
use Rattle.std.specs.List.{filter_map, range_with_len}
use Rattle.std.specs.Option.{option_to_list}
use Rattle.std.proofs.lemmas.Bool.{cases_order}
use Rattle.std.proofs.lemmas.List.{length_push}
use Rattle.std.proofs.lemmas.List.Elements.{filter_map-append}
use Rattle.std.proofs.lemmas.Option.{gets}
use Rattle.std.proofs.lemmas.Grind.{common_steps}
use Rattle.abi_base.proofs.lemmas.Ranges.{range_suc}

given : {X : Type 0} → (ℕ → Option X) → ℕ → List X
given f n = filter_map f (range_with_len 0 n)

given-more : {X : Type 0} (f : ℕ → Option X) (n : ℕ) → given f (suc n) ≡ given f n ++ option_to_list (f n)
unfolding given
given-more f n =
    let e : 0 + n ≡ n = omega arith in
    ap (filter_map f) (range_suc 0 n ∙ ap (λ k. range_with_len 0 n ++ k ∷ []) e) ∙ filter_map-append f (range_with_len 0 n) (n ∷ []) ∙ ap (λ ys. filter_map f (range_with_len 0 n) ++ ys) (single (f n))
  where
    single : {X : Type 0} (o : Option X) → filter_map (λ (k : ℕ). o) (0 ∷ []) ≡ option_to_list o
    single None = refl
    single (Some x) = refl

-- what is given of i stands after all that is given of the numbers below it
given-at : {X : Type 0} (f : ℕ → Option X) (n i : ℕ) (x : X) → i < n → f i ≡ Some x → slice_get (given f n) (length (given f i)) ≡ Some x
given-at f zero i x h e = absurd (omega arith)
given-at f (suc n) i x h e =
    elim (cases_order i n) [
      | inl same ↦ let more = given-more f n in grind (arith, common_steps, gets)
      | inr (inl below) ↦ let more = given-more f n in let ih = given-at f n i x below e in grind (arith, common_steps, gets)
      | inr (inr above) ↦ absurd (omega arith)
    ]

pub filter_map-at : {X : Type 0} (f : ℕ → Option X) (n i : ℕ) (x : X) → i < n → f i ≡ Some x → slice_get (filter_map f (range_with_len 0 n)) (length (filter_map f (range_with_len 0 i))) ≡ Some x
unfolding given
filter_map-at f n i x h e = given-at f n i x h e

-- one more where one is given
pub length-filter_map_some : {X : Type 0} (f : ℕ → Option X) (n : ℕ) (x : X) → f n ≡ Some x → length (filter_map f (range_with_len 0 (n + 1))) ≡ length (filter_map f (range_with_len 0 n)) + 1
unfolding given
length-filter_map_some f n x e = let more = given-more f n in let more' = rw e at more in rw (add-one n) (ap length more' ∙ length_push (given f n) x)

-- as many where none is given
pub length-filter_map_none : {X : Type 0} (f : ℕ → Option X) (n : ℕ) → f n ≡ None → length (filter_map f (range_with_len 0 (n + 1))) ≡ length (filter_map f (range_with_len 0 n))
unfolding given
length-filter_map_none f n e = let more = given-more f n in let more' = rw e at more in rw (add-one n) (ap length (more' ∙ append-nil (given f n)))
