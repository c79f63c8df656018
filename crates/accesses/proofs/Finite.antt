-- Where no path leads to a break, some closed relation holds the roots: what breaks nothing within this many steps, for as many steps
-- as change nothing more.
use Rattle.std.proofs.Common.{◌≡◌, ◌<◌, ◌≤◌, ℕ, zero, suc, Bool, true, false, List, [], ◌∷◌, length, Option, Some, None, slice_get, refl, sym, ◌∙◌, ap, subst, eqb, arith, inl, inr}
use Rattle.std.specs.Prelude.{◌&&◌, ◌||◌, ◌⊎◌}
use Rattle.std.specs.List.{filter, flat_map, list_all, range_with_len, Contains, AllByRecursion}
use Rattle.std.proofs.lemmas.Bool.{cases_Bool, and_parts, and_from, or_cases, or_left, or_right, eqb-true, both_ways}
use Rattle.abi_base.proofs.lemmas.Lists.{list_all-weaker}
use Rattle.abi_base.proofs.lemmas.Contained.{list_all_in, in_none, at_front, in_range, in_front, in_rest}
use Rattle.abi_types.specs.declared.kind.Way.{Way}
use Rattle.abi_types.specs.declared.kind.Way.TheVariants as way
use Rattle.abi_types.specs.Graphs.{view_at}
use Rattle.pair_rules.specs.declared.rules.Broken.{Broken}
use Rattle.pair_rules.specs.Steps.{PlainRoot, Task, Triple, is_marked, breaks_of, step}
use Rattle.pair_rules.specs.Paths.{Path, From, Then as Onward, PathLeadsTo, root_triple}
use Rattle.pair_rules.specs.Closed.{AreCompatible, IsClosed}
use Rattle.pair_rules.specs.Stable.{IsInside, is_inside}
use Rattle.accesses.proofs.Known.{Laws}
use Rattle.pair_rules.proofs.lemmas.Triples.{IsInside-from, is_inside-from}
use Rattle.pair_rules.proofs.lemmas.Lists.{in_flat_map}

-- ---- what is in a list that is made from others

by_recursion_at : {X : Type 0} (P : X → Type 0) (xs : List X) (x : X) → AllByRecursion P xs → Contains xs x → P x
by_recursion_at P [] x all c = absurd (in_none x c)
by_recursion_at P (y ∷ xs) x all c =
    elim (in_front y xs x c) [
      | inl here ↦ subst P here all.0
      | inr there ↦ by_recursion_at P xs x all.1 there
    ]

-- ---- all triples of nodes

both_ways_of : ℕ → ℕ → List Triple
both_ways_of a b = record { old = a; new = b; way = way.Direct } ∷ record { old = a; new = b; way = way.Pointer } ∷ []

with_old : Task → ℕ → List Triple
with_old t a = flat_map (both_ways_of a) (range_with_len 0 (length t.new))

triples : Task → List Triple
triples t = flat_map (with_old t) (range_with_len 0 (length t.old))

in_both_ways : (a b : ℕ) (at : Way) → Contains (both_ways_of a b) (record { old = a; new = b; way = at })
unfolding both_ways_of
in_both_ways a b way.Direct = at_front (record { old = a; new = b; way = way.Direct }) (record { old = a; new = b; way = way.Pointer } ∷ [])
in_both_ways a b way.Pointer = in_rest (record { old = a; new = b; way = way.Direct }) (record { old = a; new = b; way = way.Pointer } ∷ []) (record { old = a; new = b; way = way.Pointer }) (at_front (record { old = a; new = b; way = way.Pointer }) [])

in_triples : (t : Task) (x : Triple) → IsInside t x → Contains (triples t) x
unfolding triples with_old
in_triples t x inside =
    in_flat_map (with_old t) (range_with_len 0 (length t.old)) x.old x (in_range (length t.old) x.old inside.old)
    (in_flat_map (both_ways_of x.old) (range_with_len 0 (length t.new)) x.new x (in_range (length t.new) x.new inside.new) (in_both_ways x.old x.new x.way))

-- ---- fewer and fewer, until none goes

kept-fewer : {X : Type 0} (f g : X → Bool) → ((x : X) → g x ≡ true → f x ≡ true) → (xs : List X) → length (filter g xs) ≤ length (filter f xs)
kept-fewer f g falls [] = omega arith
kept-fewer f g falls (x ∷ xs) =
    let ih = kept-fewer f g falls xs in
    elim (cases_Bool (g x)) [
      | inl passes ↦ rw (passes, falls x passes) (omega arith)
      | inr fails ↦ elim (cases_Bool (f x)) [
        | inl passed ↦ rw (fails, passed) (omega arith)
        | inr failed ↦ rw (fails, failed) ih
      ]
    ]

same_or_fewer : {X : Type 0} (f g : X → Bool) → ((x : X) → g x ≡ true → f x ≡ true) → (xs : List X) → AllByRecursion (λ x. f x ≡ true → g x ≡ true) xs ⊎ (length (filter g xs) < length (filter f xs))
same_or_fewer f g falls [] = inl tt
same_or_fewer f g falls (x ∷ xs) =
    let ih = same_or_fewer f g falls xs in
    elim (cases_Bool (g x)) [
      | inl passes ↦ elim ih [
        | inl same ↦ inl ((λ passed. passes), same)
        | inr fewer ↦ inr (rw (passes, falls x passes) (omega arith))
      ]
      | inr fails ↦ elim (cases_Bool (f x)) [
        | inl passed ↦ let fewer = kept-fewer f g falls xs in inr (rw (fails, passed) (omega arith))
        | inr failed ↦ elim ih [
          | inl same ↦ inl ((λ passed. absurd (both_ways (f x) failed passed)), same)
          | inr fewer ↦ inr (rw (fails, failed) fewer)
        ]
      ]
    ]

-- ---- what breaks nothing within this many steps

keeps : Task → Triple → Bool
keeps t x = is_marked t x.old x.way || eqb (length (breaks_of t x)) 0

abbrev on : Option Triple → (Triple → Bool) → Bool
on None f = true
on (Some y) f = f y

unfoldable holds : Task → ℕ → Triple → Bool
holds t zero x = keeps t x
holds t (suc n) x = keeps t x && list_all (λ i. on (step t x i) (holds t n)) (range_with_len 0 (length (view_at t.old x.old).parts))

no_breaks : {X : Type 0} (xs : List X) → eqb (length xs) 0 ≡ true → xs ≡ []
no_breaks [] e = refl
no_breaks (x ∷ xs) e = let zero_length : length (x ∷ xs) ≡ 0 = eqb-true (length (x ∷ xs)) 0 e in absurd (omega arith)

breaks-none : (t : Task) (x : Triple) → keeps t x ≡ true → is_marked t x.old x.way ≡ false → breaks_of t x ≡ []
unfolding keeps
breaks-none t x e unmarked =
    elim (or_cases (is_marked t x.old x.way) (eqb (length (breaks_of t x)) 0) e) [
      | inl marked ↦ absurd (both_ways (is_marked t x.old x.way) unmarked marked)
      | inr none ↦ no_breaks (breaks_of t x) none
    ]

keeps-from : (t : Task) (x : Triple) → (is_marked t x.old x.way ≡ false → breaks_of t x ≡ []) → keeps t x ≡ true
unfolding keeps
keeps-from t x none =
    elim (cases_Bool (is_marked t x.old x.way)) [
      | inl marked ↦ or_left (is_marked t x.old x.way) (eqb (length (breaks_of t x)) 0) marked
      | inr unmarked ↦ or_right (is_marked t x.old x.way) (eqb (length (breaks_of t x)) 0) (ap (λ (bs : List Broken). eqb (length bs) 0) (none unmarked))
    ]

holds-keeps : (t : Task) (n : ℕ) (x : Triple) → holds t n x ≡ true → keeps t x ≡ true
unfolding holds
holds-keeps t zero x e = e
holds-keeps t (suc n) x e = (and_parts (keeps t x) (list_all (λ i. on (step t x i) (holds t n)) (range_with_len 0 (length (view_at t.old x.old).parts))) e).0

list_all-from : {X : Type 0} (p : X → Bool) (xs : List X) → ((x : X) → p x ≡ true) → list_all p xs ≡ true
list_all-from p [] each = refl
list_all-from p (x ∷ xs) each = and_from (p x) (list_all p xs) (each x) (list_all-from p xs each)

on-weaker : (o : Option Triple) (f g : Triple → Bool) → ((y : Triple) → f y ≡ true → g y ≡ true) → on o f ≡ true → on o g ≡ true
on-weaker None f g weaker e = refl
on-weaker (Some y) f g weaker e = weaker y e

holds-fewer : (t : Task) (n : ℕ) (x : Triple) → holds t (suc n) x ≡ true → holds t n x ≡ true
unfolding holds
holds-fewer t zero x e = (and_parts (keeps t x) (list_all (λ i. on (step t x i) (holds t 0)) (range_with_len 0 (length (view_at t.old x.old).parts))) e).0
holds-fewer t (suc n) x e =
    let range = range_with_len 0 (length (view_at t.old x.old).parts) in
    let both = and_parts (keeps t x) (list_all (λ i. on (step t x i) (holds t (suc n))) range) e in
    and_from (keeps t x) (list_all (λ i. on (step t x i) (holds t n)) range) both.0
    (list_all-weaker (λ i. on (step t x i) (holds t (suc n))) (λ i. on (step t x i) (holds t n)) (λ i. on-weaker (step t x i) (holds t (suc n)) (holds t n) (holds-fewer t n)) range both.1)

-- this many steps after which no more change anything
record IsSettled (t : Task) : Type 0 where
  pub steps : ℕ
  pub same : AllByRecursion (λ x. holds t steps x ≡ true → holds t (suc steps) x ≡ true) (triples t)

settle : (t : Task) (n k : ℕ) → length (filter (holds t k) (triples t)) ≤ n → IsSettled t
settle t zero k le =
    elim (same_or_fewer (holds t k) (holds t (suc k)) (holds-fewer t k) (triples t)) [
      | inl same ↦ record { steps = k; same = same }
      | inr fewer ↦ absurd (omega arith)
    ]
settle t (suc n) k le =
    elim (same_or_fewer (holds t k) (holds t (suc k)) (holds-fewer t k) (triples t)) [
      | inl same ↦ record { steps = k; same = same }
      | inr fewer ↦ settle t n (suc k) (omega arith)
    ]

settled : (t : Task) → IsSettled t
settled t = let many = length (filter (holds t 0) (triples t)) in settle t many 0 (omega arith)

-- ---- the closed relation

abbrev surviving : Task → ℕ → Triple → Bool
surviving t n x = is_inside t x && holds t n x

-- what stepping leads to inside the graphs
abbrev StepsInside : Task → Type 0
StepsInside t = (x y : Triple) (i : ℕ) → step t x i ≡ Some y → IsInside t y

surviving-closed : Laws → (t : Task) → StepsInside t → (s : IsSettled t) → IsClosed t (surviving t s.steps)
unfolding holds
surviving-closed laws t inside s = record {
  keeps = λ x e unmarked. breaks-none t x (holds-keeps t s.steps x (and_parts (is_inside t x) (holds t s.steps x) e).1) unmarked;
  leads_on = λ x y i e stepped.
      let both = and_parts (is_inside t x) (holds t s.steps x) e in
      let range = range_with_len 0 (length (view_at t.old x.old).parts) in
      let more : holds t (suc s.steps) x ≡ true = by_recursion_at (λ z. holds t s.steps z ≡ true → holds t (suc s.steps) z ≡ true) (triples t) x s.same (in_triples t x (IsInside-from t x both.0)) both.1 in
      let all = (and_parts (keeps t x) (list_all (λ j. on (step t x j) (holds t s.steps)) range) more).1 in
      let is = (laws.steps t x y i).0 stepped in
      let here : on (step t x i) (holds t s.steps) ≡ true = list_all_in (λ j. on (step t x j) (holds t s.steps)) range i all (in_range (length (view_at t.old x.old).parts) i is.partners.old_inside) in
      let there : holds t s.steps y ≡ true = sym (ap (λ o. on o (holds t s.steps)) stepped) ∙ here in
      and_from (is_inside t y) (holds t s.steps y) (is_inside-from t y (inside x y i stepped)) there;
}

-- no path leads to a break
abbrev NoneBroken : Task → Type 0
NoneBroken t = (p : Path) (x : Triple) → PathLeadsTo t p x → is_marked t x.old x.way ≡ false → breaks_of t x ≡ []

reachable-holds : (t : Task) → NoneBroken t → (n : ℕ) (p : Path) (x : Triple) → PathLeadsTo t p x → holds t n x ≡ true
unfolding holds
reachable-holds t none zero p x leads = keeps-from t x (none p x leads)
reachable-holds t none (suc n) p x leads =
    and_from (keeps t x) (list_all (λ i. on (step t x i) (holds t n)) (range_with_len 0 (length (view_at t.old x.old).parts))) (keeps-from t x (none p x leads))
    (list_all-from (λ i. on (step t x i) (holds t n)) (range_with_len 0 (length (view_at t.old x.old).parts)) (λ i. go i (step t x i) refl (reachable-holds t none n))) where
      go : (i : ℕ) (o : Option Triple) → step t x i ≡ o → ((q : Path) (y : Triple) → PathLeadsTo t q y → holds t n y ≡ true) → on o (holds t n) ≡ true
      go i None e later = refl
      go i (Some y) e later = later (Onward p i) y (x, leads, e)

pub compatible_from_none : Laws → (t : Task) → StepsInside t → ((k : ℕ) (root : PlainRoot) → slice_get t.roots k ≡ Some root → IsInside t (root_triple root)) → NoneBroken t → AreCompatible t
compatible_from_none laws t inside roots none =
    let s = settled t in (
      surviving t s.steps,
      surviving-closed laws t inside s,
      λ k root at.
          let leads : PathLeadsTo t (From root.export) (root_triple root) = (k, root, at, refl, refl) in
          and_from (is_inside t (root_triple root)) (holds t s.steps (root_triple root)) (is_inside-from t (root_triple root) (roots k root at)) (reachable-holds t none s.steps (From root.export) (root_triple root) leads),
    )
