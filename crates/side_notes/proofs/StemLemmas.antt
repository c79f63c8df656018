-- Stems, one byte after another from the end.
use Rattle.std.proofs.Common.{◌≡◌, ◌<◌, ◌≤◌, ◌+◌, ◌-◌, ℕ, true, false, List, [], ◌∷◌, ◌++◌, length, get_or, take, refl, sym, ◌∙◌, ap, arith}
use Rattle.std.proofs.lemmas.List.{take_more}
use Rattle.side_notes.specs.Stems.{is_counting, stem, stem_with}

stem_counting : (xs : List ℕ) (byte : ℕ) → is_counting byte ≡ true → stem (xs ++ byte ∷ []) ≡ stem xs
unfolding stem
stem_counting [] byte counts = rw counts refl
stem_counting (x ∷ xs) byte counts = ap (stem_with x) (stem_counting xs byte counts)

stem_with-more : (x byte : ℕ) (xs : List ℕ) → stem_with x (xs ++ byte ∷ []) ≡ x ∷ (xs ++ byte ∷ [])
stem_with-more x byte [] = refl
stem_with-more x byte (y ∷ xs) = refl

stem_ends : (xs : List ℕ) (byte : ℕ) → is_counting byte ≡ false → stem (xs ++ byte ∷ []) ≡ xs ++ byte ∷ []
unfolding stem
stem_ends [] byte other = rw other refl
stem_ends (x ∷ xs) byte other = ap (stem_with x) (stem_ends xs byte other) ∙ stem_with-more x byte xs

pub stem_none : stem [] ≡ []
unfolding stem
stem_none = refl

module _ (name : List ℕ) (left d : ℕ) (some : 0 < left) (inside : left ≤ length name) where
  split : take left name ≡ take (left - 1) name ++ get_or name (left - 1) d ∷ []
  split =
      let back : left ≡ left - 1 + 1 = omega (arith, some) in
      ap (λ n. take n name) back ∙ take_more name (left - 1) d (omega (arith, some, inside))

  pub counted : is_counting (get_or name (left - 1) d) ≡ true → stem (take left name) ≡ stem (take (left - 1) name)
  counted counts = ap stem split ∙ stem_counting (take (left - 1) name) (get_or name (left - 1) d) counts

  pub done : is_counting (get_or name (left - 1) d) ≡ false → stem (take left name) ≡ take left name
  done other = ap stem split ∙ stem_ends (take (left - 1) name) (get_or name (left - 1) d) other ∙ sym split

take_none : (name : List ℕ) → take 0 name ≡ []
take_none [] = refl
take_none (byte ∷ bytes) = refl

pub done_none : (name : List ℕ) (left : ℕ) → left ≡ 0 → stem (take left name) ≡ take left name
done_none name left none =
    let nothing : take left name ≡ [] = ap (λ n. take n name) none ∙ take_none name in
    ap stem nothing ∙ stem_none ∙ sym nothing
