-- The breaks of an exploration are told at visits that are there.
use Rattle.std.proofs.Common.{◌≡◌, ℕ, List, [], map, length, slice_get, Option, Some, None, refl, sym, ◌∙◌, ap, subst, inl, inr}
use Rattle.std.specs.List.{Contains, range_with_len}
use Rattle.std.proofs.lemmas.Bool.{cases_Bool}
use Rattle.abi_base.proofs.lemmas.Contained.{in_none, in_map_cases}
use Rattle.pair_rules.specs.declared.rules.Broken.{Broken}
use Rattle.pair_rules.specs.Steps.{Task, is_marked, breaks_of}
use Rattle.pair_explorer.specs.declared.visits.Visit.{Visit}
use Rattle.pair_explorer.specs.Explorations.{IsExploration, visit_breaks, some_breaks, breaks_below}
use Rattle.pair_explorer.specs.Scopes.{Scope}
use Rattle.pair_explorer.specs.Visits.{seen}
use Rattle.pair_rules.proofs.lemmas.Lists.{from_flat_map}

number_of_break : (t : Task) (n : ℕ) (v : Visit) (p : ℕ × Broken) → Contains (visit_breaks t n v) p → n ≡ p.0
unfolding visit_breaks
number_of_break t n v p h =
    elim (cases_Bool (is_marked t v.old v.way)) [
      | inl marked ↦ let none : Contains [] p = rw marked at h in absurd (in_none p none)
      | inr unmarked ↦
          let there : Contains (map (λ b. (n, b)) (breaks_of t (seen v))) p = rw unmarked at h in
          let r = in_map_cases (λ (b : Broken). (n, b)) (breaks_of t (seen v)) p there in
          ap (λ (q : ℕ × Broken). q.0) r.2
    ]

at_some : (t : Task) (vs : List Visit) (n : ℕ) (o : Option Visit) (p : ℕ × Broken) → slice_get vs n ≡ o → Contains (some_breaks t n o) p → (v : Visit) × (slice_get vs p.0 ≡ Some v)
at_some t vs n None p is h = absurd (in_none p h)
at_some t vs n (Some v) p is h = (v, ap (slice_get vs) (sym (number_of_break t n v p h)) ∙ is)

in_below : (t : Task) (vs : List Visit) (m : ℕ) (p : ℕ × Broken) → Contains (breaks_below t vs m) p → (v : Visit) × (slice_get vs p.0 ≡ Some v)
unfolding breaks_below
in_below t vs m p h =
    let r = from_flat_map (λ (i : ℕ). some_breaks t i (slice_get vs i)) (range_with_len 0 m) p h in
    at_some t vs r.0 (slice_get vs r.0) p refl r.2

-- the visit of a break
pub visit_of : (s : Scope) (vs : List Visit) (broken : List (ℕ × Broken)) → IsExploration s vs broken → (p : ℕ × Broken) → Contains broken p → (v : Visit) × (slice_get vs p.0 ≡ Some v)
visit_of s vs broken explored p h = in_below s.task vs (length vs) p (subst (λ (bs : List (ℕ × Broken)). Contains bs p) explored.breaks h)
