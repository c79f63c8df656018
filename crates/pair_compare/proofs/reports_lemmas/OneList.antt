-- Two lists that ascend and have the same members are one.
use Rattle.std.proofs.Common.{◌≡◌, suc, List, [], ◌∷◌, refl, sym, ◌∙◌, ap, subst, inl, inr, arith}
use Rattle.std.specs.List.{Contains}
use Rattle.abi_base.proofs.lemmas.Contained.{in_front, in_none, at_front, in_rest}
use Rattle.abi_base.proofs.lemmas.Lists.{at_contains}
use Rattle.abi_base.specs.Lists.{Ascends}

module _ {X : Type 0} (R : X → X → Type 0) (itself : (x : X) → R x x → ⊥) (both : (x y : X) → R x y → R y x → ⊥) where
  tail : (x : X) (xs : List X) → Ascends R (x ∷ xs) → Ascends R xs
  tail x xs up m n y z lt at_m at_n = up (suc m) (suc n) y z (omega (arith, lt)) at_m at_n

  head : (x : X) (xs : List X) → Ascends R (x ∷ xs) → (z : X) → Contains xs z → R x z
  head x xs up z h = let k = at_contains xs z h in up 0 (suc k.0) x z (omega arith) refl k.1

  same_head : (x y : X) (xs ys : List X) → Ascends R (x ∷ xs) → Ascends R (y ∷ ys) → Contains (y ∷ ys) x → Contains (x ∷ xs) y → x ≡ y
  same_head x y xs ys up_x up_y x_in y_in = elim (in_front y ys x x_in) [
    | inl same ↦ sym same
    | inr x_later ↦ elim (in_front x xs y y_in) [ inl same ↦ same | inr y_later ↦ absurd (both x y (head x xs up_x y y_later) (head y ys up_y x x_later)) ]
  ]

  pub one_list : (xs ys : List X) → Ascends R xs → Ascends R ys → ((z : X) → Contains xs z → Contains ys z) → ((z : X) → Contains ys z → Contains xs z) → xs ≡ ys
  one_list [] [] up_x up_y to from = refl
  one_list [] (y ∷ ys) up_x up_y to from = absurd (in_none y (from y (at_front y ys)))
  one_list (x ∷ xs) [] up_x up_y to from = absurd (in_none x (to x (at_front x xs)))
  one_list (x ∷ xs) (y ∷ ys) up_x up_y to from =
      let e = same_head x y xs ys up_x up_y (to x (at_front x xs)) (from y (at_front y ys)) in
      let rest = one_list xs ys (tail x xs up_x) (tail y ys up_y)
      (λ z h. elim (in_front y ys z (to z (in_rest x xs z h))) [ inl same ↦ absurd (itself z (subst (λ w. R w z) (e ∙ same) (head x xs up_x z h))) | inr later ↦ later ])
      (λ z h. elim (in_front x xs z (from z (in_rest y ys z h))) [ inl same ↦ absurd (itself z (subst (λ w. R w z) (sym e ∙ same) (head y ys up_y z h))) | inr later ↦ later ]) in
      ap (λ w. w ∷ xs) e ∙ ap (λ ws. y ∷ ws) rest
