-- Types and their cores.
use Rattle.std.proofs.Common.{◌≡◌, ◌≤◌, ◌+◌, ◌*◌, ℕ, zero, suc, List, [], ◌∷◌, map, Some, None, refl, sym, ◌∙◌, ap, subst, arith, ◌⊎◌, inl, inr}
use Rattle.std.specs.Prelude.{Contains, IfSome}
use Rattle.abi_base.proofs.lemmas.Contained.{at_front, in_none}
use Rattle.dwarf_tree.specs.Trees.{PlainTree}
use Rattle.dwarf_entries.specs.Debug.{PlainDwarf}
use Rattle.abi_base.specs.Limits.{depth_limit}
use Rattle.abi_types.specs.Limits.{size_limit}
use Rattle.type_reach.specs.declared.facts.Facts.{Facts}
use Rattle.type_reach.specs.declared.role.Role.{Role}
use Rattle.type_reach.specs.declared.role.Role.TheVariants as role
use Rattle.type_reach.specs.References.{Type_, role_of, type_of, steps_of}
use Rattle.type_reach.specs.ByValue.{steps_from, StepsOn, IsTooDeep, IsClosed}
use Rattle.type_reach.specs.Facts.{cut, array_count, size_for, count_for, rooms_for, span_for, beyond_for, core_for, aggregate_for, facts_from, facts_of}
use Rattle.type_reach.specs.Flat.{core_of, labels_made, labels_of, flat_for, flat_made, flat_of}
use Rattle.type_reach.specs.PeeledCores.{SharePeeledCore, StandsForNone, IsPeeledCore, IsFound}
use Rattle.type_reach.proofs.ByValueLemmas.{StepsOn-none, StepsOn-more, by_value-is}
use Rattle.type_reach.proofs.FactLemmas.{rank-falls, facts_of-is, facts_of-void, shallow-step, step_there, void_ends}
use Rattle.type_reach.proofs.StepLemmas.{passed-steps, array-steps}

-- ---- the equations

pub flat_of-is : (d : PlainDwarf) (r : Type_) → (IsTooDeep d.tree r → ⊥) → flat_of d r ≡ flat_made d r (map (flat_of d) (steps_from d.tree r))
unfolding flat_of
flat_of-is d r shallow = by_value-is d.tree (flat_made d) [] r shallow

pub labels_of-is : (d : PlainDwarf) (r : Type_) → (IsTooDeep d.tree r → ⊥) → labels_of d r ≡ labels_made d r (map (labels_of d) (steps_from d.tree r))
unfolding labels_of
labels_of-is d r shallow = by_value-is d.tree (labels_made d) [] r shallow

pub void_shallow : (t : PlainTree) → IsTooDeep t None → ⊥
void_shallow t deep = void_ends t (depth_limit + 1) None (omega arith) refl deep

-- ---- what is passed

-- the facts of an entry whose one step leads to its type
pub one-step : (d : PlainDwarf) (e : ℕ) (ty : Type_) → (IsTooDeep d.tree (Some e) → ⊥) → steps_of d.tree e ≡ ty ∷ [] → facts_of d (Some e) ≡ facts_from d (Some e) (facts_of d ty ∷ [])
one-step d e ty shallow steps = facts_of-is d (Some e) shallow ∙ ap (λ ss. facts_from d (Some e) (map (facts_of d) ss)) steps

pub passed-facts : (d : PlainDwarf) (e : ℕ) (x : Facts) (a : Facts) → role_of d.tree e ≡ role.Wrapper → a ≡ facts_from d (Some e) (x ∷ []) → SharePeeledCore a x
unfolding facts_from
passed-facts d e x a passed is = record {
  size = ap (λ (y : Facts). y.size) is ∙ ap (λ k. size_for k d.tree e (x ∷ [])) passed;
  count = ap (λ (y : Facts). y.count) is ∙ ap (λ k. count_for k d.tree e (x ∷ [])) passed;
  rooms = ap (λ (y : Facts). y.rooms) is ∙ ap (λ k. rooms_for k (x ∷ [])) passed;
  span = ap (λ (y : Facts). y.span) is ∙ ap (λ k. span_for k d e (x ∷ [])) passed;
  beyond = ap (λ (y : Facts). y.beyond) is ∙ ap (λ k. beyond_for k d e (x ∷ [])) passed;
  core = ap (λ (y : Facts). y.core) is ∙ ap (λ k. core_for k e (x ∷ [])) passed;
  aggregate = ap (λ (y : Facts). y.aggregate) is ∙ ap (λ k. aggregate_for k (x ∷ [])) passed;
}

pub passed-shares : (d : PlainDwarf) (e : ℕ) → (IsTooDeep d.tree (Some e) → ⊥) → role_of d.tree e ≡ role.Wrapper → SharePeeledCore (facts_of d (Some e)) (facts_of d (type_of d.tree e))
passed-shares d e shallow passed = passed-facts d e (facts_of d (type_of d.tree e)) (facts_of d (Some e)) passed (one-step d e (type_of d.tree e) shallow (passed-steps d.tree e passed))

pub passed-flat : (d : PlainDwarf) (e : ℕ) → (IsTooDeep d.tree (Some e) → ⊥) → role_of d.tree e ≡ role.Wrapper → flat_of d (Some e) ≡ flat_of d (type_of d.tree e)
passed-flat d e shallow passed =
    flat_of-is d (Some e) shallow
    ∙ ap (λ k. flat_for k d e (map (flat_of d) (steps_of d.tree e))) passed
    ∙ ap (λ ss. flat_for role.Wrapper d e (map (flat_of d) ss)) (passed-steps d.tree e passed)

pub passed-step : (t : PlainTree) (e : ℕ) → role_of t e ≡ role.Wrapper → Contains (steps_of t e) (type_of t e)
passed-step t e passed = subst (λ ss. Contains ss (type_of t e)) (sym (passed-steps t e passed)) (at_front (type_of t e) [])

-- ---- what is its own core

-- an entry is passed, or is a core
pub passed_or_core : (k : Role) → (k ≡ role.Wrapper) ⊎ ((k ≡ role.Wrapper → ⊥) × ((e : ℕ) (facts : List Facts) → core_for k e facts ≡ Some e))
passed_or_core role.Wrapper = inl refl
passed_or_core role.Aggregate = inr (λ h. (cc), λ e facts. refl)
passed_or_core role.Function = inr (λ h. (cc), λ e facts. refl)
passed_or_core role.Part = inr (λ h. (cc), λ e facts. refl)
passed_or_core role.Pointer = inr (λ h. (cc), λ e facts. refl)
passed_or_core role.Array = inr (λ h. (cc), λ e facts. refl)
passed_or_core role.Enumeration = inr (λ h. (cc), λ e facts. refl)
passed_or_core role.Base = inr (λ h. (cc), λ e facts. refl)
passed_or_core role.Unknown = inr (λ h. (cc), λ e facts. refl)

pub core_of-own : (d : PlainDwarf) (e : ℕ) → (IsTooDeep d.tree (Some e) → ⊥) → ((facts : List Facts) → core_for (role_of d.tree e) e facts ≡ Some e) → core_of d (Some e) ≡ Some e
unfolding facts_from
core_of-own d e shallow own = ap (λ (y : Facts). y.core) (facts_of-is d (Some e) shallow) ∙ own (map (facts_of d) (steps_of d.tree e))

pub core-void : (d : PlainDwarf) → core_of d None ≡ None
core-void d = ap (λ (y : Facts). y.core) (facts_of-void d)

shares-itself : (x : Facts) → SharePeeledCore x x
shares-itself x = record { size = refl; count = refl; rooms = refl; span = refl; beyond = refl; core = refl; aggregate = refl }

shares-on : (a b c : Facts) → SharePeeledCore a b → SharePeeledCore b c → SharePeeledCore a c
shares-on a b c one two = record {
  size = one.size ∙ two.size;
  count = one.count ∙ two.count;
  rooms = one.rooms ∙ two.rooms;
  span = one.span ∙ two.span;
  beyond = one.beyond ∙ two.beyond;
  core = one.core ∙ two.core;
  aggregate = one.aggregate ∙ two.aggregate;
}

-- ---- cores

IsPeeledCore-itself : (d : PlainDwarf) (r : Type_) → (IsTooDeep d.tree r → ⊥) → IfSome r (StandsForNone d) → IsPeeledCore d r r
IsPeeledCore-itself d r shallow last = record { last = last; shallow = shallow; low = omega arith; same = shares-itself (facts_of d r); flat = refl }

IsPeeledCore-within : (d : PlainDwarf) (k : ℕ) (r : Type_) → (StepsOn d.tree k r → ⊥) → (IsTooDeep d.tree r → ⊥) → IsPeeledCore d r (core_of d r)
IsPeeledCore-within d zero r none shallow = absurd (none (StepsOn-none d.tree r))
IsPeeledCore-within d (suc k) None none shallow = subst (IsPeeledCore d None) (sym (core-void d)) (IsPeeledCore-itself d None shallow tt)
IsPeeledCore-within d (suc k) (Some e) none shallow =
    elim (passed_or_core (role_of d.tree e)) [
      | inl passed ↦
          let ty : Type_ = type_of d.tree e in
          let has = passed-step d.tree e passed in
          let below = IsPeeledCore-within d k ty (λ on. none (StepsOn-more d.tree k (Some e) ty has on)) (shallow-step d.tree (Some e) ty shallow has) in
          let shares = passed-shares d e shallow passed in
          let falls = rank-falls d (Some e) ty shallow has in
          subst (IsPeeledCore d (Some e)) (sym shares.core) (record {
            last = below.last;
            shallow = below.shallow;
            low = omega (arith, below.low, falls);
            same = shares-on (facts_of d (Some e)) (facts_of d ty) (facts_of d (core_of d ty)) shares below.same;
            flat = passed-flat d e shallow passed ∙ below.flat;
          })
      | inr own ↦ subst (IsPeeledCore d (Some e)) (sym (core_of-own d e shallow (own.1 e))) (IsPeeledCore-itself d (Some e) shallow own.0)
    ]

-- THE LAW of cores
pub core-is : (d : PlainDwarf) (r : Type_) → (IsTooDeep d.tree r → ⊥) → IsPeeledCore d r (core_of d r)
core-is d r shallow = IsPeeledCore-within d (depth_limit + 1) r shallow shallow

pub step_found : (t : PlainTree) (found : List ℕ) (r s : Type_) → IsClosed t found → IsFound found r → Contains (steps_from t r) s → IsFound found s
step_found t found None s closed there has = absurd (in_none s has)
step_found t found (Some e) s closed there has = step_there t found e s closed there has

core-found-within : (d : PlainDwarf) (found : List ℕ) → IsClosed d.tree found → (k : ℕ) (r : Type_) → (StepsOn d.tree k r → ⊥) → (IsTooDeep d.tree r → ⊥) → IsFound found r → IsFound found (core_of d r)
core-found-within d found closed zero r none shallow there = absurd (none (StepsOn-none d.tree r))
core-found-within d found closed (suc k) None none shallow there = subst (IsFound found) (sym (core-void d)) tt
core-found-within d found closed (suc k) (Some e) none shallow there =
    elim (passed_or_core (role_of d.tree e)) [
      | inl passed ↦
          let ty : Type_ = type_of d.tree e in
          let has = passed-step d.tree e passed in
          subst (IsFound found) (sym (passed-shares d e shallow passed).core)
          (core-found-within d found closed k ty (λ on. none (StepsOn-more d.tree k (Some e) ty has on)) (shallow-step d.tree (Some e) ty shallow has) (step_found d.tree found (Some e) ty closed there has))
      | inr own ↦ subst (IsFound found) (sym (core_of-own d e shallow (own.1 e))) there
    ]

-- a core was found where its type was
pub core-found : (d : PlainDwarf) (found : List ℕ) (r : Type_) → IsClosed d.tree found → (IsTooDeep d.tree r → ⊥) → IsFound found r → IsFound found (core_of d r)
core-found d found r closed shallow there = core-found-within d found closed (depth_limit + 1) r shallow shallow there

-- ---- arrays

pub array-facts : (d : PlainDwarf) (e : ℕ) (x a : Facts) → role_of d.tree e ≡ role.Array → a ≡ facts_from d (Some e) (x ∷ []) → a.size ≡ size_for role.Array d.tree e (x ∷ [])
unfolding facts_from
array-facts d e x a array is = ap (λ (y : Facts). y.size) is ∙ ap (λ k. size_for k d.tree e (x ∷ [])) array

array-count : (d : PlainDwarf) (e : ℕ) (x a : Facts) → role_of d.tree e ≡ role.Array → a ≡ facts_from d (Some e) (x ∷ []) → a.count ≡ array_count d.tree e
unfolding facts_from
array-count d e x a array is = ap (λ (y : Facts). y.count) is ∙ ap (λ k. count_for k d.tree e (x ∷ [])) array

cut-small : (n : ℕ) → cut n ≤ size_limit → cut n ≡ n
cut-small n le = omega arith

-- an array that keeps the limit has the size of its elements together
pub array-whole : (d : PlainDwarf) (e : ℕ) → (IsTooDeep d.tree (Some e) → ⊥) → role_of d.tree e ≡ role.Array → (facts_of d (Some e)).size ≤ size_limit
    → (facts_of d (Some e)).size ≡ (facts_of d (Some e)).count * (facts_of d (type_of d.tree e)).size
array-whole d e shallow array le =
    let x : Facts = facts_of d (type_of d.tree e) in
    let is = one-step d e (type_of d.tree e) shallow (array-steps d.tree e array) in
    let size = array-facts d e x (facts_of d (Some e)) array is in
    let count = array-count d e x (facts_of d (Some e)) array is in
    size ∙ cut-small (array_count d.tree e * x.size) (subst (λ n. n ≤ size_limit) size le) ∙ ap (λ n. n * x.size) (sym count)
