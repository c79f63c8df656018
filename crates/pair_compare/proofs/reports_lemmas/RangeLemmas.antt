-- Joined images of ranges.
use Rattle.std.proofs.Common.{◌≡◌, ℕ, zero, suc, ◌+◌, [], ◌∷◌, ◌++◌, Option, Some, None, refl, ◌∙◌, ap, arith}
use Rattle.std.specs.Prelude.{option_to_list}
use Rattle.std.specs.List.{filter_map, range_with_len}
use Rattle.std.proofs.lemmas.List.Elements.{filter_map-append}

range_more : (a n b : ℕ) → b ≡ a + n → range_with_len a (suc n) ≡ range_with_len a n ++ b ∷ []
range_more a zero b is = let same : a ≡ b = omega (arith, is) in ap (λ k. k ∷ []) same
range_more a (suc n) b is = ap (λ ks. a ∷ ks) (range_more (a + 1) n b (omega (arith, is)))

filter_map-one : {X : Type 0} (f : ℕ → Option X) (n : ℕ) → filter_map f (n ∷ []) ≡ option_to_list (f n)
filter_map-one {X} f n = go (f n) refl where
  go : (o : Option X) → f n ≡ o → filter_map f (n ∷ []) ≡ option_to_list (f n)
  go None is = rw is refl
  go (Some x) is = rw is refl

pub filter_map-range_more : {X : Type 0} (f : ℕ → Option X) (n : ℕ) → filter_map f (range_with_len 0 (suc n)) ≡ filter_map f (range_with_len 0 n) ++ option_to_list (f n)
filter_map-range_more f n =
    ap (filter_map f) (range_more 0 n n (omega arith)) ∙ filter_map-append f (range_with_len 0 n) (n ∷ []) ∙ ap (λ xs. filter_map f (range_with_len 0 n) ++ xs) (filter_map-one f n)
