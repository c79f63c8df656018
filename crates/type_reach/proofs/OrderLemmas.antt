-- The entries that were found, in order of offset, are the list of the reached ones.
use Rattle.std.proofs.Common.{◌≡◌, ◌<◌, ℕ, zero, suc, Bool, true, List, [], ◌∷◌, length, refl, sym, ◌∙◌, ap, subst, inl, inr}
use Rattle.std.specs.Prelude.{Contains, nat_eq, filter, ◌↔◌}
use Rattle.std.specs.List.{range_with_len}
use Rattle.std.proofs.lemmas.Bool.{cases_Bool, eq-eqb, eqb-true}
use Rattle.std.proofs.lemmas.List.Elements.{filter_agree}
use Rattle.std.proofs.lemmas.Map.Views.{Contains-from_any}
use Rattle.abi_base.proofs.lemmas.Bools.{same_tests}
use Rattle.abi_base.proofs.lemmas.Contained.{in_front, at_front, in_rest, in_none}
use Rattle.dwarf_tree.specs.Trees.{PlainTree}
use Rattle.type_reach.specs.References.{Type_}
use Rattle.type_reach.specs.Reached.{IsWalk, was_found}
use Rattle.type_reach.specs.ReachedList.{is_reached, reached_of}
use Rattle.type_reach.specs.VisitedEntries.{by_offset}
use Rattle.type_reach.specs.ByValue.{steps_from, StepsOn}
use Rattle.type_reach.specs.Faults.{steps_on}
use Rattle.type_reach.proofs.ReachedLemmas.{is_reached-is, any_found, any_there}
use Rattle.type_reach.proofs.ByValueLemmas.{StepsOn-none, StepsOn-more, StepsOn-cases}

pub filter-there : (p : ℕ → Bool) (xs : List ℕ) (e : ℕ) → Contains xs e → p e ≡ true → Contains (filter p xs) e
filter-there p [] e h is = absurd (in_none e h)
filter-there p (x ∷ xs) e h is = elim (in_front x xs e h) [
  | inl same ↦ let kept : p x ≡ true = ap p same ∙ is in rw kept (subst (Contains (x ∷ filter p xs)) same (at_front x (filter p xs)))
  | inr later ↦ elim (cases_Bool (p x)) [ inl kept ↦ rw kept (in_rest x (filter p xs) e (filter-there p xs e later is)) | inr passed ↦ rw passed (filter-there p xs e later is) ]
]

pub filter-from : (p : ℕ → Bool) (xs : List ℕ) (e : ℕ) → Contains (filter p xs) e → p e ≡ true
filter-from p [] e h = absurd (in_none e h)
filter-from p (x ∷ xs) e h =
    elim (cases_Bool (p x)) [ inl kept ↦ elim (in_front x (filter p xs) e (rw kept at h)) [ inl same ↦ ap p (sym same) ∙ kept | inr later ↦ filter-from p xs e later ] | inr passed ↦ filter-from p xs e (rw passed at h) ]

-- THE LAW: what was found, in order of offset, is the list of the definition
pub by_offset-is : (t : PlainTree) (roots found : List ℕ) → ((e : ℕ) → Contains roots e → e < length t.entries) → IsWalk t roots found → by_offset found (length t.entries) ≡ reached_of t roots
unfolding by_offset reached_of
by_offset-is t roots found inside walk = filter_agree (was_found found) (is_reached t roots) agree (range_with_len 0 (length t.entries)) where
  agree : (e : ℕ) → was_found found e ≡ is_reached t roots e
  agree e = same_tests (was_found found e) (is_reached t roots e)
      (λ there. (is_reached-is t roots inside e).1 ((walk.exact e).0 (Contains-from_any eqb-true e found there)))
      (λ reached. any_there (nat_eq e) found e ((walk.exact e).1 ((is_reached-is t roots inside e).0 reached)) (eq-eqb e e refl))

-- the test of depth says that a chain of this many steps leads on
pub steps_on-is : (t : PlainTree) (n : ℕ) (r : Type_) → (steps_on t n r ≡ true) ↔ StepsOn t n r
unfolding steps_on
steps_on-is t zero r = (λ h. StepsOn-none t r, λ h. refl)
steps_on-is t (suc n) r = (
  λ h. let s = any_found (steps_on t n) (steps_from t r) h in StepsOn-more t n r s.0 s.1 ((steps_on-is t n s.0).0 s.2),
  λ on. let c = StepsOn-cases t n r on in any_there (steps_on t n) (steps_from t r) c.0 c.1 ((steps_on-is t n c.0).1 c.2),
)
