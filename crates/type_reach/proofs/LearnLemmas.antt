-- All facts, by number.
use Rattle.std.proofs.Common.{◌≡◌, ◌<◌, ◌≤◌, ◌+◌, ℕ, zero, suc, List, [], ◌∷◌, ◌++◌, length, map, take, get_or, slice_get, replicate, Some, None, refl, sym, ◌∙◌, ap, subst, arith, inl, inr}
use Rattle.std.specs.Prelude.{Contains, All, IsPermutation, Option, IfNone}
use Rattle.std.specs.List.Sorted.{IsNonDecreasing}
use Rattle.std.proofs.lemmas.Option.{same_Some, slice_get_within, get_or_from_slice_get, none-some}
use Rattle.std.proofs.lemmas.List.{take_more, take_all, map-append, length-map, length-take, get_or-take, get_or_default}
use Rattle.std.proofs.lemmas.List.Elements.{All-contains}
use Rattle.std.proofs.lemmas.List.Sorted.{Contains-permutation, IsPermutation-sym}
use Rattle.std.proofs.lemmas.Bool.{cases_lt}
use Rattle.abi_base.proofs.lemmas.Lists.{slice_get-mapped}
use Rattle.dwarf_tree.specs.Trees.{PlainTree}
use Rattle.dwarf_entries.specs.Debug.{PlainDwarf}
use Rattle.type_reach.specs.declared.facts.Facts.{Facts}
use Rattle.type_reach.specs.ByValue.{IsTooDeep}
use Rattle.type_reach.specs.Facts.{facts_of, AreFacts, AreAllFacts, IsFirstTooDeep}

-- one item more was taken
pub take-step : {X : Type 0} (xs new taken : List X) (k : ℕ) (x : X) → taken ≡ take k xs → slice_get xs k ≡ Some x → new ≡ taken ++ x ∷ [] → new ≡ take (k + 1) xs
take-step xs new taken k x was at grown =
    let lt = slice_get_within xs k x at in
    grown ∙ ap (λ ys. ys ++ x ∷ []) was ∙ ap (λ y. take k xs ++ y ∷ []) (sym (get_or_from_slice_get xs k x x at)) ∙ sym (take_more xs k x lt)

pub map-step : {X Y : Type 0} (f : X → Y) (xs : List X) (new made : List Y) (k : ℕ) (x : X) (y : Y) → made ≡ map f (take k xs) → slice_get xs k ≡ Some x → y ≡ f x → new ≡ made ++ y ∷ [] → new ≡ map f (take (k + 1) xs)
map-step f xs new made k x y was at is grown =
    grown ∙ ap (λ ys. ys ++ y ∷ []) was ∙ ap (λ z. map f (take k xs) ++ z ∷ []) is
    ∙ sym (map-append f (take k xs) (x ∷ []))
    ∙ ap (map f) (take-step xs (take k xs ++ x ∷ []) (take k xs) k x refl at refl)

pub none_known : (d : PlainDwarf) (found : List ℕ) (n : ℕ) → AreFacts d found (replicate n None)
none_known d found n = record {
  each = λ i e x at is. absurd (no n i x is);
  shallow = λ i e x at is. absurd (no n i x is);
  near = λ i x is. absurd (no n i x is);
} where
  no : (m j : ℕ) (x : Facts) → slice_get (replicate m None) j ≡ Some (Some x) → ⊥
  no zero j x h = none-some (Some x) h
  no (suc m) zero x h = none-some x (same_Some None (Some x) h)
  no (suc m) (suc j) x h = no m j x h

pub AreAllFacts-end : (d : PlainDwarf) (found : List ℕ) (facts : List Facts) (k : ℕ) → length found ≤ k → facts ≡ map (λ (e : ℕ). facts_of d (Some e)) (take k found) → ((e : ℕ) → Contains found e → IsTooDeep d.tree (Some e) → ⊥) → AreAllFacts d found facts
AreAllFacts-end d found facts k past is shallow =
    let whole : facts ≡ map (λ (e : ℕ). facts_of d (Some e)) found = is ∙ ap (map (λ (e : ℕ). facts_of d (Some e))) (take_all k found past) in
    record {
      count = ap length whole ∙ length-map found (λ (e : ℕ). facts_of d (Some e));
      each = λ i e at. ap (λ xs. slice_get xs i) whole ∙ slice_get-mapped (λ (e : ℕ). facts_of d (Some e)) found i e at;
      shallow = shallow;
    }

pub Contains-back : (xs ys : List ℕ) (x : ℕ) → IsPermutation xs ys → Contains ys x → Contains xs x
Contains-back xs ys x same h = Contains-permutation ys xs x (IsPermutation-sym xs ys same) h

taken_inside : {X : Type 0} (xs : List X) (k i : ℕ) → i < k → i < length xs → i < length (take k xs)
taken_inside xs k i lt inside = omega (arith, length-take k xs)

-- the first one in order from which too many steps lead on
pub first-deep : (t : PlainTree) (found order : List ℕ) (k e : ℕ) → IsPermutation found order → IsNonDecreasing order → All (λ (f : ℕ). IsTooDeep t (Some f) → ⊥) (take k order) → k < length order → e ≡ get_or order k e → IsTooDeep t (Some e) → IsFirstTooDeep t found e
first-deep t found order k e same rises shallow lt read deep = record {
  there = Contains-back found order e same (k, lt, sym read);
  deep = deep;
  first = λ f has less.
      let at = Contains-permutation found order f same has in
      elim (cases_lt at.0 k) [
        | inl before ↦ subst (λ g. IsTooDeep t (Some g) → ⊥) at.2 (subst (λ g. IsTooDeep t (Some g) → ⊥) (get_or-take k order at.0 f before) (shallow at.0 f (taken_inside order k at.0 before at.1)))
        | inr after ↦ absurd (let le = rises k at.0 f after at.1 in omega (arith, le, at.2, get_or_default order k e f lt, read, less))
      ];
}

pub all-shallow : (t : PlainTree) (found order : List ℕ) (k : ℕ) → IsPermutation found order → All (λ (f : ℕ). IsTooDeep t (Some f) → ⊥) (take k order) → length order ≤ k → (e : ℕ) → Contains found e → IsTooDeep t (Some e) → ⊥
all-shallow t found order k same shallow past e has =
    All-contains (λ (f : ℕ). IsTooDeep t (Some f) → ⊥) order e (subst (All (λ (f : ℕ). IsTooDeep t (Some f) → ⊥)) (take_all k order past) shallow) (Contains-permutation found order e same has)

pub IfNone-weaker : {X P Q : Type 0} (o : Option X) → (P → Q) → IfNone o P → IfNone o Q
IfNone-weaker None more holds = more holds
IfNone-weaker (Some x) more holds = tt
