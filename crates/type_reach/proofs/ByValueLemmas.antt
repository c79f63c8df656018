-- The equation of what is made by value.
use Rattle.std.proofs.Common.{◌≡◌, ◌≤◌, ◌+◌, ◌∙◌, ℕ, zero, suc, List, [], ◌∷◌, map, refl, ap, arith}
use Rattle.std.specs.Prelude.{Contains}
use Rattle.dwarf_tree.specs.Trees.{PlainTree}
use Rattle.abi_base.specs.Limits.{depth_limit}
use Rattle.type_reach.specs.References.{Type_}
use Rattle.type_reach.specs.ByValue.{steps_from, StepsOn, IsTooDeep, within, by_value}
use Rattle.type_reach.proofs.lemmas.Mapped.{map-same}

-- ---- chains

pub StepsOn-none : (t : PlainTree) (r : Type_) → StepsOn t 0 r
unfolding StepsOn
StepsOn-none t r = tt

pub StepsOn-more : (t : PlainTree) (n : ℕ) (r s : Type_) → Contains (steps_from t r) s → StepsOn t n s → StepsOn t (suc n) r
unfolding StepsOn
StepsOn-more t n r s has on = (s, has, on)

pub StepsOn-cases : (t : PlainTree) (n : ℕ) (r : Type_) → StepsOn t (suc n) r → (s : Type_) × Contains (steps_from t r) s × StepsOn t n s
unfolding StepsOn
StepsOn-cases t n r on = on

-- a chain's part is a chain
pub StepsOn-fewer : (t : PlainTree) (m n : ℕ) (r : Type_) → m ≤ n → StepsOn t n r → StepsOn t m r
StepsOn-fewer t zero n r le on = StepsOn-none t r
StepsOn-fewer t (suc m) zero r le on = absurd (omega arith)
StepsOn-fewer t (suc m) (suc n) r le on =
    let c = StepsOn-cases t n r on in
    StepsOn-more t m r c.0 c.1 (StepsOn-fewer t m n c.0 (omega arith) c.2)

module _ {A : Type 0} (t : PlainTree) (make : Type_ → List A → A) (past : A) where
  -- any two depths that suffice agree
  within-enough : (k n m : ℕ) (r : Type_) → (StepsOn t k r → ⊥) → k ≤ n → k ≤ m → within t make past n r ≡ within t make past m r
  unfolding within
  within-enough zero n m r none le_n le_m = absurd (none (StepsOn-none t r))
  within-enough (suc k) zero m r none le_n le_m = absurd (omega arith)
  within-enough (suc k) (suc n) zero r none le_n le_m = absurd (omega arith)
  within-enough (suc k) (suc n) (suc m) r none le_n le_m =
      ap (make r) (map-same (within t make past n) (within t make past m) (steps_from t r) (λ s has. within-enough k n m s (λ on. none (StepsOn-more t k r s has on)) (omega arith) (omega arith)))

  -- THE LAW
  pub by_value-is : (r : Type_) → (IsTooDeep t r → ⊥) → by_value t make past r ≡ make r (map (by_value t make past) (steps_from t r))
  unfolding by_value within
  by_value-is r shallow =
      ap (make r) (map-same (within t make past depth_limit) (within t make past (depth_limit + 1)) (steps_from t r) (λ s has. within-enough depth_limit depth_limit (depth_limit + 1) s (λ on. shallow (StepsOn-more t depth_limit r s has on)) (omega arith) (omega arith)))

-- What is made of what was made: two recursions that agree step by step agree. It needs no bound on depth.
module _ {A B : Type 0} (g : A → B) (t : PlainTree) (make : Type_ → List A → A) (past : A) (make' : Type_ → List B → B) (past' : B)
    (ends : g past ≡ past') (steps : (r : Type_) (xs : List A) → g (make r xs) ≡ make' r (map g xs)) where
  map-both : (f : Type_ → A) (f' : Type_ → B) (xs : List Type_) → ((s : Type_) → g (f s) ≡ f' s) → map g (map f xs) ≡ map f' xs
  map-both f f' [] same = refl
  map-both f f' (x ∷ xs) same = let here = same x in let later = map-both f f' xs same in rw (here, later) refl

  within-map : (n : ℕ) (r : Type_) → g (within t make past n r) ≡ within t make' past' n r
  unfolding within
  within-map zero r = ends
  within-map (suc n) r =
      steps r (map (within t make past n) (steps_from t r))
      ∙ ap (make' r) (map-both (within t make past n) (within t make' past' n) (steps_from t r) (λ s. within-map n s))

  pub by_value-map : (r : Type_) → g (by_value t make past r) ≡ by_value t make' past' r
  unfolding by_value
  by_value-map r = within-map (depth_limit + 1) r
