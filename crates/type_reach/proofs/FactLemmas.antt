-- Rank, size and weight.
use Rattle.std.proofs.Common.{◌≡◌, ◌<◌, ◌≤◌, ◌+◌, ℕ, zero, suc, List, [], ◌∷◌, ◌++◌, length, map, take, set, get_or, slice_get, Option, Some, None, refl, sym, ◌∙◌, ap, subst, arith, inl, inr, ◌⊎◌}
use Rattle.std.specs.Prelude.{Contains, All, nat_eq, position, IfSome}
use Rattle.std.specs.List.{position_or_len}
use Rattle.std.proofs.lemmas.Bool.{cases_Bool, cases_lt, eqb-true, eq-eqb, lt-ltb}
use Rattle.std.proofs.lemmas.List.{take_more, take_all, map-append}
use Rattle.std.proofs.lemmas.List.Elements.{All-contains}
use Rattle.std.proofs.lemmas.List.Quantifiers.{position-Some}
use Rattle.std.proofs.lemmas.Option.{same_Some, slice_get_within, slice_get_read}
use Rattle.abi_base.proofs.lemmas.Lists.{map-map}
use Rattle.abi_base.proofs.lemmas.Contained.{in_front, in_none}
use Rattle.dwarf_tree.specs.Trees.{PlainTree}
use Rattle.abi_base.specs.Limits.{depth_limit}
use Rattle.type_reach.specs.declared.facts.Facts.{Facts}
use Rattle.dwarf_entries.specs.Debug.{PlainDwarf}
use Rattle.type_reach.specs.References.{Type_, role_of, holds_none, types_of, steps_of}
use Rattle.type_reach.specs.ByValue.{steps_from, StepsOn, IsTooDeep, IsNoDeeper, IsClosed}
use Rattle.type_reach.specs.Facts.{above, rank_in, nothing, void_facts, facts_from, facts_of, IsSpanNear, AreFacts}
use Rattle.type_reach.proofs.ByValueLemmas.{StepsOn-none, StepsOn-more, StepsOn-cases, StepsOn-fewer, by_value-is}
use Rattle.type_reach.proofs.RankLemmas.{above-le, above-reached}
use Rattle.type_reach.proofs.lemmas.Mapped.{Contains-map, from_map}

-- the equation of facts
pub facts_of-is : (d : PlainDwarf) (r : Type_) → (IsTooDeep d.tree r → ⊥) → facts_of d r ≡ facts_from d r (map (facts_of d) (steps_from d.tree r))
unfolding facts_of
facts_of-is d r shallow = by_value-is d.tree (facts_from d) nothing r shallow

facts_from-rank : (d : PlainDwarf) (r : Type_) (facts : List Facts) → (r ≡ None → facts ≡ []) → (facts_from d r facts).rank ≡ above (map rank_in facts)
unfolding facts_from above
facts_from-rank d None facts none = sym (ap (λ xs. above (map rank_in xs)) (none refl))
facts_from-rank d (Some e) facts none = refl

abbrev pub rank_of : PlainDwarf → Type_ → ℕ
rank_of d r = (facts_of d r).rank

void_steps : (d : PlainDwarf) (r : Type_) → r ≡ None → map (facts_of d) (steps_from d.tree r) ≡ []
void_steps d r is = ap (λ x. map (facts_of d) (steps_from d.tree x)) is

rank_of-is : (d : PlainDwarf) (r : Type_) → (IsTooDeep d.tree r → ⊥) → rank_of d r ≡ above (map (rank_of d) (steps_from d.tree r))
rank_of-is d r shallow =
    ap rank_in (facts_of-is d r shallow)
    ∙ facts_from-rank d r (map (facts_of d) (steps_from d.tree r)) (void_steps d r)
    ∙ ap above (map-map rank_in (facts_of d) (steps_from d.tree r))

pub shallow-step : (t : PlainTree) (r s : Type_) → (IsTooDeep t r → ⊥) → Contains (steps_from t r) s → IsTooDeep t s → ⊥
shallow-step t r s shallow has deep =
    shallow (StepsOn-fewer t (depth_limit + 1) (suc (depth_limit + 1)) r (omega arith) (StepsOn-more t (depth_limit + 1) r s has deep))

-- the rank falls along each step
pub rank-falls : (d : PlainDwarf) (r s : Type_) → (IsTooDeep d.tree r → ⊥) → Contains (steps_from d.tree r) s → rank_of d s < rank_of d r
rank-falls d r s shallow has =
    let le = above-le (map (rank_of d) (steps_from d.tree r)) (rank_of d s) (Contains-map (rank_of d) (steps_from d.tree r) s has) in
    omega (arith, le, rank_of-is d r shallow)

-- the rank is the most steps that lead on
pub rank-most : (d : PlainDwarf) (n : ℕ) (r : Type_) → (IsTooDeep d.tree r → ⊥) → StepsOn d.tree n r → n ≤ rank_of d r
rank-most d zero r shallow on = omega arith
rank-most d (suc n) r shallow on =
    let c = StepsOn-cases d.tree n r on in
    let below = rank-most d n c.0 (shallow-step d.tree r c.0 shallow c.1) c.2 in
    omega (arith, below, rank-falls d r c.0 shallow c.1)

rank-there : (d : PlainDwarf) (k : ℕ) (r : Type_) → (IsTooDeep d.tree r → ⊥) → (StepsOn d.tree k r → ⊥) → StepsOn d.tree (rank_of d r) r
rank-there d zero r shallow none = absurd (none (StepsOn-none d.tree r))
rank-there d (suc k) r shallow none =
    elim (above-reached (map (rank_of d) (steps_from d.tree r))) [
      | inl no_step ↦ subst (λ n. StepsOn d.tree n r) (sym (rank_of-is d r shallow ∙ no_step)) (StepsOn-none d.tree r)
      | inr some ↦
          let from = from_map (rank_of d) (steps_from d.tree r) some.0 some.1 in
          let below = rank-there d k from.0 (shallow-step d.tree r from.0 shallow from.1) (λ on. none (StepsOn-more d.tree k r from.0 from.1 on)) in
          let is : rank_of d r ≡ suc (rank_of d from.0) = omega (arith, rank_of-is d r shallow, some.2, from.2) in
          subst (λ n. StepsOn d.tree n r) (sym is) (StepsOn-more d.tree (rank_of d from.0) r from.0 from.1 below)
    ]

pub rank-leads : (d : PlainDwarf) (r : Type_) → (IsTooDeep d.tree r → ⊥) → StepsOn d.tree (rank_of d r) r
rank-leads d r shallow = rank-there d (depth_limit + 1) r shallow shallow

-- ---- one entry learned

pub shallow_from : (t : PlainTree) (n : ℕ) (r : Type_) → n ≤ depth_limit → IsNoDeeper t n r → IsTooDeep t r → ⊥
shallow_from t n r le few deep = few (StepsOn-fewer t (n + 1) (depth_limit + 1) r (omega arith) deep)

pub few_from : (t : PlainTree) (n e : ℕ) → All (λ (s : Type_). StepsOn t n s → ⊥) (steps_of t e) → IsNoDeeper t n (Some e)
few_from t n e few on =
    let is : n + 1 ≡ suc n = omega arith in
    let c = StepsOn-cases t n (Some e) (subst (λ k. StepsOn t k (Some e)) is on) in
    All-contains (λ (s : Type_). StepsOn t n s → ⊥) (steps_of t e) c.0 few c.1 c.2

pub learned : (d : PlainDwarf) (e : ℕ) (facts : List Facts) (x : Facts) → (IsTooDeep d.tree (Some e) → ⊥) → facts ≡ map (facts_of d) (steps_of d.tree e) → x ≡ facts_from d (Some e) facts → x ≡ facts_of d (Some e)
learned d e facts x shallow are is = is ∙ ap (facts_from d (Some e)) are ∙ sym (facts_of-is d (Some e) shallow)

pub facts_of-void : (d : PlainDwarf) → facts_of d None ≡ void_facts
unfolding facts_from
facts_of-void d = facts_of-is d None (λ deep. in_none _ (StepsOn-cases d.tree depth_limit None deep).1)

-- ---- look-ups

pub number_is : (found : List ℕ) (e i : ℕ) → Some i ≡ position (nat_eq e) found → slice_get found i ≡ Some e
number_is found e i is =
    let p = position-Some (nat_eq e) found i e (sym is) in
    at_place found i p.0 ∙ ap (λ x. Some x) (sym (eqb-true e (get_or found i e) p.1))
  where
    at_place : (xs : List ℕ) (k : ℕ) → k < length xs → slice_get xs k ≡ Some (get_or xs k e)
    at_place [] k lt = absurd (omega arith)
    at_place (y ∷ ys) zero lt = refl
    at_place (y ∷ ys) (suc k) lt = at_place ys k (omega arith)

slice_get-set : {X : Type 0} (xs : List X) (i j : ℕ) (x y : X) → slice_get (set xs i x) j ≡ Some y → ((i ≡ j) × (x ≡ y)) ⊎ (slice_get xs j ≡ Some y)
slice_get-set [] i j x y is = inr is
slice_get-set (z ∷ xs) zero zero x y is = inl (refl, same_Some x y is)
slice_get-set (z ∷ xs) zero (suc j) x y is = inr is
slice_get-set (z ∷ xs) (suc i) zero x y is = inr is
slice_get-set (z ∷ xs) (suc i) (suc j) x y is = elim (slice_get-set xs i j x y is) [ inl here ↦ inl (ap suc here.0, here.1) | inr other ↦ inr other ]

pub AreFacts-more : (d : PlainDwarf) (found : List ℕ) (known : List (Option Facts)) (number e : ℕ) (x : Facts) → AreFacts d found known → slice_get found number ≡ Some e → x ≡ facts_of d (Some e) → (IsTooDeep d.tree (Some e) → ⊥) → IsSpanNear x
    → AreFacts d found (set known number (Some x))
AreFacts-more d found known number e x was at is shallow near = record {
  each = λ i f y at_i read. elim (slice_get-set known number i (Some x) (Some y) read) [
    | inl here ↦
        let same : e ≡ f = same_Some e f (sym at ∙ ap (slice_get found) here.0 ∙ at_i) in
        let one : x ≡ y = same_Some x y here.1 in
        sym one ∙ is ∙ ap (λ z. facts_of d (Some z)) same
    | inr other ↦ was.each i f y at_i other
  ];
  shallow = λ i f y at_i read. elim (slice_get-set known number i (Some x) (Some y) read) [
    | inl here ↦ let same : e ≡ f = same_Some e f (sym at ∙ ap (slice_get found) here.0 ∙ at_i) in subst (λ z. IsTooDeep d.tree (Some z) → ⊥) same shallow
    | inr other ↦ was.shallow i f y at_i other
  ];
  near = λ i y read. elim (slice_get-set known number i (Some x) (Some y) read) [
    | inl here ↦ subst IsSpanNear (same_Some x y here.1) near
    | inr other ↦ was.near i y other
  ];
}

-- ---- the recursion

pub rank-bound : (d : PlainDwarf) (n : ℕ) (r : Type_) → n ≤ depth_limit → IsNoDeeper d.tree n r → rank_of d r ≤ n
rank-bound d n r le few =
    elim (cases_lt n (rank_of d r)) [
      | inl more ↦ absurd (few (StepsOn-fewer d.tree (n + 1) (rank_of d r) r (omega arith) (rank-leads d r (shallow_from d.tree n r le few))))
      | inr within ↦ within
    ]

pub first-lt : (found : List ℕ) (e : ℕ) → Contains found e → position_or_len (nat_eq e) found < length found
first-lt [] e h = absurd (in_none e h)
first-lt (x ∷ found) e h =
    elim (cases_Bool (nat_eq e x)) [
      | inl here ↦ rw here (omega arith)
      | inr other ↦ elim (in_front x found e h) [
        | inl same ↦ absurd (let is = eq-eqb e x (sym same) in cc)
        | inr later ↦ rw other (omega (arith, first-lt found e later))
      ]
    ]

pub number_there : (found : List ℕ) (e : ℕ) → Contains found e → None ≡ position (nat_eq e) found → ⊥
number_there found e h none = let lt = lt-ltb (position_or_len (nat_eq e) found) (length found) (first-lt found e h) in absurd (let is = rw lt at none in cc)

-- what is known of an entry that was learned before
pub record IsKnown (d : PlainDwarf) (e : ℕ) (x : Facts) : Type 0 where
  pub is : x ≡ facts_of d (Some e)
  pub shallow : IsTooDeep d.tree (Some e) → ⊥
  pub near : IsSpanNear x

pub known_there : (d : PlainDwarf) (found : List ℕ) (known : List (Option Facts)) (number e : ℕ) (r : Option Facts) (x : Facts) → AreFacts d found known → length known ≡ length found → slice_get found number ≡ Some e
    → r ≡ get_or known number r → r ≡ Some x → IsKnown d e x
known_there d found known number e r x are long at read is =
    let lt = slice_get_within found number e at in
    let here = slice_get_read known (length known) number r refl (omega (arith, long, lt)) read ∙ ap (λ y. Some y) is in
    record { is = are.each number e x at here; shallow = are.shallow number e x at here; near = are.near number x here }

steps_in_types : (t : PlainTree) (e : ℕ) (s : Type_) → Contains (steps_of t e) s → Contains (types_of t e) s
unfolding steps_of
steps_in_types t e s h =
    elim (cases_Bool (holds_none (role_of t e))) [ inl is ↦ absurd (in_none s (rw is at h)) | inr other ↦ rw other at h ]

pub step_there : (t : PlainTree) (found : List ℕ) (e : ℕ) (s : Type_) → IsClosed t found → Contains found e → Contains (steps_of t e) s → IfSome s (λ x. Contains found x)
step_there t found e None closed there has = tt
step_there t found e (Some f) closed there has = closed.leads_on e f there (steps_in_types t e (Some f) has)

pub step_at : (t : PlainTree) (e : ℕ) (steps : List Type_) (k : ℕ) (s : Type_) → steps ≡ steps_of t e → k < length steps → s ≡ get_or steps k s → Contains (steps_of t e) s
step_at t e steps k s is lt read = subst (λ xs. Contains xs s) is (k, lt, sym read)

pub facts-more : (d : PlainDwarf) (steps : List Type_) (k : ℕ) (s : Type_) (facts new : List Facts) (x : Facts) → facts ≡ map (facts_of d) (take k steps) → k < length steps → s ≡ get_or steps k s → x ≡ facts_of d s → new ≡ facts ++ x ∷ []
    → new ≡ map (facts_of d) (take (k + 1) steps)
facts-more d steps k s facts new x are lt read is grown =
    grown
    ∙ ap (λ xs. xs ++ x ∷ []) are
    ∙ ap (λ y. map (facts_of d) (take k steps) ++ y ∷ []) (is ∙ ap (facts_of d) read)
    ∙ sym (map-append (facts_of d) (take k steps) (get_or steps k s ∷ []))
    ∙ ap (map (facts_of d)) (sym (take_more steps k s lt))

-- what is known of an entry once all its steps were taken
pub record IsLearned (d : PlainDwarf) (budget e : ℕ) (x : Facts) : Type 0 where
  pub few : IsNoDeeper d.tree budget (Some e)
  pub shallow : IsTooDeep d.tree (Some e) → ⊥
  pub is : x ≡ facts_of d (Some e)

pub IsLearned-end : (d : PlainDwarf) (budget e k : ℕ) (steps : List Type_) (facts : List Facts) (x : Facts) → budget ≤ depth_limit → steps ≡ steps_of d.tree e → length steps ≤ k
    → facts ≡ map (facts_of d) (take k steps) → All (λ (s : Type_). StepsOn d.tree budget s → ⊥) (take k steps) → x ≡ facts_from d (Some e) facts → IsLearned d budget e x
IsLearned-end d budget e k steps facts x le is past are few made =
    let whole : take k steps ≡ steps_of d.tree e = take_all k steps past ∙ is in
    let no_deeper = few_from d.tree budget e (subst (All (λ (s : Type_). StepsOn d.tree budget s → ⊥)) whole few) in
    let shallow = shallow_from d.tree budget (Some e) le no_deeper in
    record { few = no_deeper; shallow = shallow; is = learned d e facts x shallow (are ∙ ap (map (facts_of d)) whole) made }

pub void_ends : (t : PlainTree) (n : ℕ) (r : Type_) → 0 < n → r ≡ None → StepsOn t n r → ⊥
void_ends t zero r some is on = absurd (omega arith)
void_ends t (suc n) r some is on = let c = StepsOn-cases t n None (subst (StepsOn t (suc n)) is on) in in_none c.0 c.1
