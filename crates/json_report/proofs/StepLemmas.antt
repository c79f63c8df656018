-- The steps of a path, byte by byte.
use Rattle.std.proofs.Common.{◌≡◌, ℕ, zero, suc, ◌+◌, ◌-◌, ◌<◌, ◌≤◌, true, false, List, [], ◌∷◌, ◌++◌, length, drop, get_or, refl, sym, ap, ◌∙◌, append_assoc, arith}
use Rattle.std.proofs.lemmas.List.{drop_more, drop_all, append-nil}
use Rattle.json_report.specs.Strings.{escaped}
use Rattle.json_report.specs.Breaks.{goes_on, steps_behind}

one_passed : (passed : ℕ) (b : ℕ) (bytes : List ℕ) → 0 < passed → steps_behind passed (b ∷ bytes) ≡ steps_behind (passed - 1) bytes
unfolding steps_behind
one_passed zero b bytes some = absurd (omega (arith, some))
one_passed (suc n) b bytes some = let back : suc n - 1 ≡ n = omega arith in rw back refl

module _ (path : List ℕ) (i d : ℕ) (inside : i < length path) where
  pub step_passed : (passed : ℕ) → 0 < passed → steps_behind (passed - 1) (drop (i + 1) path) ≡ steps_behind passed (drop i path)
  step_passed passed some = rw (drop_more path i d inside) (sym (one_passed passed (get_or path i d) (drop (i + 1) path) some))

  pub step_ends : (text : List ℕ) → goes_on (drop i path) ≡ true → (text ++ 34 ∷ 44 ∷ 34 ∷ []) ++ steps_behind 2 (drop (i + 1) path) ≡ text ++ steps_behind 0 (drop i path)
  unfolding steps_behind
  step_ends text is =
      let more = drop_more path i d inside in
      let on : goes_on (get_or path i d ∷ drop (i + 1) path) ≡ true = rw more at is in
      let step : steps_behind 0 (drop i path) ≡ (34 ∷ 44 ∷ 34 ∷ []) ++ steps_behind 2 (drop (i + 1) path) = rw more (rw on refl) in
      append_assoc text (34 ∷ 44 ∷ 34 ∷ []) (steps_behind 2 (drop (i + 1) path)) ∙ ap (λ (rest : List ℕ). text ++ rest) (sym step)

  pub step_goes_on : (text : List ℕ) → goes_on (drop i path) ≡ false → (text ++ escaped (get_or path i d)) ++ steps_behind 0 (drop (i + 1) path) ≡ text ++ steps_behind 0 (drop i path)
  unfolding steps_behind
  step_goes_on text is =
      let more = drop_more path i d inside in
      let on : goes_on (get_or path i d ∷ drop (i + 1) path) ≡ false = rw more at is in
      let step : steps_behind 0 (drop i path) ≡ escaped (get_or path i d) ++ steps_behind 0 (drop (i + 1) path) = rw more (rw on refl) in
      append_assoc text (escaped (get_or path i d)) (steps_behind 0 (drop (i + 1) path)) ∙ ap (λ (rest : List ℕ). text ++ rest) (sym step)

pub steps_end : (path : List ℕ) (i passed : ℕ) (text : List ℕ) → length path ≤ i → text ++ steps_behind passed (drop i path) ≡ text
unfolding steps_behind
steps_end path i passed text le = rw (drop_all i path le) (cases passed)
  where
    cases : (n : ℕ) → text ++ steps_behind n [] ≡ text
    cases zero = append-nil text
    cases (suc n) = append-nil text
