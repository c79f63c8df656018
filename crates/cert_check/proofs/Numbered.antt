-- What is given for the numbers of a range, in their order.
use Rattle.std.proofs.Common.{◌≡◌, ◌<◌, ◌≤◌, ◌+◌, ℕ, zero, suc, List, [], ◌∷◌, ◌++◌, slice_get, Option, Some, None, refl, sym, ◌∙◌, ap, inl, inr, arith}
use Rattle.std.specs.Prelude.{filter_map, option_to_list}
use Rattle.std.specs.List.{range_with_len, Contains}
use Rattle.std.proofs.lemmas.Bool.{cases_order}
use Rattle.std.proofs.lemmas.List.Elements.{filter_map-append}
use Rattle.std.proofs.lemmas.Option.{none-some}
use Rattle.abi_base.proofs.lemmas.Ranges.{below_more}
use Rattle.abi_base.proofs.lemmas.Lists.{contains_at, at_contains}
use Rattle.cert_check.specs.Given.{given_below, AreGivenInOrder, StandInOrder}

module _ {X : Type 0} (f : ℕ → Option X) where
  -- what one more number gives stands last
  single : (n : ℕ) (o : Option X) → f n ≡ o → filter_map f (n ∷ []) ≡ option_to_list o
  single n None is = rw is refl
  single n (Some x) is = rw is refl

  pub given_more : (n : ℕ) → filter_map f (range_with_len 0 (n + 1)) ≡ filter_map f (range_with_len 0 n) ++ option_to_list (f n)
  given_more n =
      ap (filter_map f) (below_more n) ∙ filter_map-append f (range_with_len 0 n) (n ∷ []) ∙ ap (λ (xs : List X). filter_map f (range_with_len 0 n) ++ xs) (single n (f n) refl)

  -- the number that gives an item
  pub record IsOfNumber (from n : ℕ) (x : X) : Type 0 where
    pub number : ℕ
    pub above : from ≤ number
    pub below : number < from + n
    pub gives : f number ≡ Some x

  later_number : (a n : ℕ) (x : X) → IsOfNumber (a + 1) n x → IsOfNumber a (suc n) x
  later_number a n x is = record { number = is.number; above = omega (arith, is.above); below = omega (arith, is.below); gives = is.gives }

  head_some : (a n : ℕ) (y : X) → f a ≡ Some y → filter_map f (range_with_len a (suc n)) ≡ y ∷ filter_map f (range_with_len (a + 1) n)
  head_some a n y is = rw is refl

  head_none : (a n : ℕ) → f a ≡ None → filter_map f (range_with_len a (suc n)) ≡ filter_map f (range_with_len (a + 1) n)
  head_none a n is = rw is refl

  -- what stands at a place comes from some number
  number_with : (a n j : ℕ) (x : X) (o : Option X) → f a ≡ o → ((i : ℕ) → slice_get (filter_map f (range_with_len (a + 1) n)) i ≡ Some x → IsOfNumber (a + 1) n x) → slice_get (filter_map f (range_with_len a (suc n))) j ≡ Some x → IsOfNumber a (suc n) x
  number_with a n j x None is later e = later_number a n x (later j (ap (λ (xs : List X). slice_get xs j) (sym (head_none a n is)) ∙ e))
  number_with a n zero x (Some y) is later e = record { number = a; above = omega arith; below = omega arith; gives = is ∙ ap (λ (xs : List X). slice_get xs 0) (sym (head_some a n y is)) ∙ e }
  number_with a n (suc i) x (Some y) is later e = later_number a n x (later i (ap (λ (xs : List X). slice_get xs (suc i)) (sym (head_some a n y is)) ∙ e))

  pub of_number : (a n j : ℕ) (x : X) → slice_get (filter_map f (range_with_len a n)) j ≡ Some x → IsOfNumber a n x
  of_number a zero j x e = absurd (none-some x e)
  of_number a (suc n) j x e = number_with a n j x (f a) refl (λ i. of_number (a + 1) n i x) e

  -- what a number gives stands at some place
  given_behind : (a n : ℕ) (x : X) (o : Option X) → f a ≡ o → (j : ℕ) → slice_get (filter_map f (range_with_len (a + 1) n)) j ≡ Some x → (i : ℕ) × (slice_get (filter_map f (range_with_len a (suc n))) i ≡ Some x)
  given_behind a n x None gives j there = (j, ap (λ (xs : List X). slice_get xs j) (head_none a n gives) ∙ there)
  given_behind a n x (Some y) gives j there = (suc j, ap (λ (xs : List X). slice_get xs (suc j)) (head_some a n y gives) ∙ there)

  given_at : (a n k : ℕ) (x : X) → a ≤ k → k < a + n → f k ≡ Some x → (j : ℕ) × (slice_get (filter_map f (range_with_len a n)) j ≡ Some x)
  given_at a zero k x from below is = absurd (omega (arith, from, below))
  given_at a (suc n) k x from below is = elim (cases_order a k) [
    | inl same ↦ (0, ap (λ (xs : List X). slice_get xs 0) (head_some a n x (ap f same ∙ is)))
    | inr (inl less) ↦ let there = given_at (a + 1) n k x (omega (arith, less)) (omega (arith, below)) is in given_behind a n x (f a) refl there.0 there.1
    | inr (inr above) ↦ absurd (omega (arith, from, above))
  ]

  pub given_there : (n k : ℕ) (x : X) → k < n → f k ≡ Some x → Contains (filter_map f (range_with_len 0 n)) x
  given_there n k x below is = let there = given_at 0 n k x (omega arith) (omega (arith, below)) is in contains_at (filter_map f (range_with_len 0 n)) there.0 x there.1

  pub given_source : (n : ℕ) (x : X) → Contains (filter_map f (range_with_len 0 n)) x → IsOfNumber 0 n x
  given_source n x h = let there = at_contains (filter_map f (range_with_len 0 n)) x h in of_number 0 n there.0 x there.1

  -- what later numbers give stands later
  ascends_with : (R : X → X → Type 0) (a n i j : ℕ) (x y : X) (o : Option X) → f a ≡ o → i < j
      → ((z : X) (l : ℕ) → f a ≡ Some z → slice_get (filter_map f (range_with_len (a + 1) n)) l ≡ Some y → R z y)
      → ((k l : ℕ) → k < l → slice_get (filter_map f (range_with_len (a + 1) n)) k ≡ Some x → slice_get (filter_map f (range_with_len (a + 1) n)) l ≡ Some y → R x y)
      → slice_get (filter_map f (range_with_len a (suc n))) i ≡ Some x → slice_get (filter_map f (range_with_len a (suc n))) j ≡ Some y → R x y
  ascends_with R a n i j x y None is less first later at there =
      later i j less (ap (λ (xs : List X). slice_get xs i) (sym (head_none a n is)) ∙ at) (ap (λ (xs : List X). slice_get xs j) (sym (head_none a n is)) ∙ there)
  ascends_with R a n i zero x y (Some z) is less first later at there = absurd (omega (arith, less))
  ascends_with R a n zero (suc l) x y (Some z) is less first later at there =
      first x l (is ∙ ap (λ (xs : List X). slice_get xs 0) (sym (head_some a n z is)) ∙ at) (ap (λ (xs : List X). slice_get xs (suc l)) (sym (head_some a n z is)) ∙ there)
  ascends_with R a n (suc k) (suc l) x y (Some z) is less first later at there =
      later k l (omega (arith, less)) (ap (λ (xs : List X). slice_get xs (suc k)) (sym (head_some a n z is)) ∙ at) (ap (λ (xs : List X). slice_get xs (suc l)) (sym (head_some a n z is)) ∙ there)

  pub given_ascends : (R : X → X → Type 0) (top : ℕ) → ((m n : ℕ) (x y : X) → m < n → n < top → f m ≡ Some x → f n ≡ Some y → R x y)
      → (a n i j : ℕ) (x y : X) → a + n ≤ top → i < j → slice_get (filter_map f (range_with_len a n)) i ≡ Some x → slice_get (filter_map f (range_with_len a n)) j ≡ Some y → R x y
  given_ascends R top rises a zero i j x y fits less at there = absurd (none-some x at)
  given_ascends R top rises a (suc n) i j x y fits less at there =
      ascends_with R a n i j x y (f a) refl less
      (λ z l gives other. let from = of_number (a + 1) n l y other in rises a from.number z y (omega (arith, from.above)) (omega (arith, from.below, fits)) gives from.gives)
      (λ k l lt. given_ascends R top rises (a + 1) n k l x y (omega (arith, fits)) lt) at there

in_order : (line : ℕ → Option (ℕ × ℕ)) (bound i j : ℕ) (x y : ℕ × ℕ) → i < j → slice_get (given_below line bound) i ≡ Some x → slice_get (given_below line bound) j ≡ Some y → AreGivenInOrder line bound x y
in_order line bound i j x y less at there =
    given_ascends line (AreGivenInOrder line bound) bound
    (λ m n a b lt below one other. record { first = m; later = n; less = lt; below = below; gives_first = one; gives_later = other })
    0 bound i j x y (omega arith) less at there

pub stand_in_order : (line : ℕ → Option (ℕ × ℕ)) → StandInOrder line
stand_in_order line = record {
  more = given_more line;
  there = given_there line;
  source = λ n x h. let from = given_source line n x h in record { number = from.number; below = omega (arith, from.below); gives = from.gives };
  order = in_order line;
}
