-- The breaks of an exploration stand in order of visits, and then of rules and parts.
use Rattle.std.proofs.Common.{◌≡◌, ◌<◌, ◌≤◌, ℕ, zero, suc, List, length, slice_get, Some, refl, sym, ◌∙◌, ap, subst, inl, inr, arith}
use Rattle.std.proofs.lemmas.Bool.{cases_Bool}
use Rattle.std.proofs.lemmas.Option.{none-some}
use Rattle.abi_types.specs.Graphs.{view_at}
use Rattle.abi_types.specs.Types.{PlainView}
use Rattle.pair_rules.specs.declared.rules.Broken.{Broken}
use Rattle.pair_rules.specs.BreakOrder.{IsBrokenBefore}
use Rattle.pair_rules.specs.TypeRules.{breaks}
use Rattle.pair_explorer.specs.Scopes.{Scope}
use Rattle.pair_explorer.specs.ByClass.{IsToldBefore}
use Rattle.pair_rules.specs.Steps.{Task, is_marked, breaks_of}
use Rattle.pair_explorer.specs.declared.visits.Visit.{Visit}
use Rattle.pair_explorer.specs.Visits.{seen}
use Rattle.pair_explorer.specs.Explorations.{visit_breaks, breaks_below, IsExploration}
use Rattle.abi_base.specs.Lists.{Ascends}
use Rattle.abi_base.proofs.lemmas.Lists.{Ascends-append, Ascends-map, map_source, slice_get_append_cases, at_below}
use Rattle.pair_explorer.proofs.Loop.{breaks_below-more}
use Rattle.pair_explorer.proofs.Verdict.{visit_breaks-marked, visit_breaks-unmarked, breaks_below-zero}

-- what the law of breaks says
abbrev pub StandInOrder : Type 0
StandInOrder = (v w : PlainView) (m n : ℕ) (b c : Broken) → m < n → slice_get (breaks v w) m ≡ Some b → slice_get (breaks v w) n ≡ Some c → IsBrokenBefore b c

module _ (stand : StandInOrder) (t : Task) (vs : List Visit) where
  visit_breaks-number : (n k : ℕ) (v : Visit) (p : ℕ × Broken) → slice_get (visit_breaks t n v) k ≡ Some p → p.0 ≡ n
  visit_breaks-number n k v p at =
      elim (cases_Bool (is_marked t v.old v.way)) [
        | inl marked ↦ absurd (none-some p (sym (ap (λ (xs : List (ℕ × Broken)). slice_get xs k) (visit_breaks-marked t n v marked)) ∙ at))
        | inr unmarked ↦
            let m = map_source {X = Broken} {Y = ℕ × Broken} (λ b. (n, b)) (breaks_of t (seen v)) k p (sym (ap (λ (xs : List (ℕ × Broken)). slice_get xs k) (visit_breaks-unmarked t n v unmarked)) ∙ at) in
            sym (ap (λ (q : ℕ × Broken). q.0) m.is)
      ]

  visit_breaks-ascend : (n : ℕ) (v : Visit) → Ascends IsToldBefore (visit_breaks t n v)
  visit_breaks-ascend n v =
      elim (cases_Bool (is_marked t v.old v.way)) [
        | inl marked ↦ subst (Ascends IsToldBefore) (sym (visit_breaks-marked t n v marked)) (λ i j x y lt at_i at_j. absurd (none-some x at_i))
        | inr unmarked ↦ subst (Ascends IsToldBefore) (sym (visit_breaks-unmarked t n v unmarked))
            (Ascends-map {X = Broken} {Y = ℕ × Broken} IsBrokenBefore IsToldBefore (λ b. (n, b)) (breaks_of t (seen v)) (λ b c before. inr (refl, before)) (stand (view_at t.old v.old) (view_at t.new v.new)))
      ]

  number_below : (m : ℕ) → m ≤ length vs → (k : ℕ) (p : ℕ × Broken) → slice_get (breaks_below t vs m) k ≡ Some p → p.0 < m
  number_below zero le k p at = absurd (none-some p (sym (ap (λ (xs : List (ℕ × Broken)). slice_get xs k) (breaks_below-zero t vs)) ∙ at))
  number_below (suc m) le k p at =
      let v = at_below vs m (omega arith) in
      elim (slice_get_append_cases (breaks_below t vs m) (visit_breaks t m v.0) k p (sym (ap (λ (xs : List (ℕ × Broken)). slice_get xs k) (breaks_below-more t vs m v.0 v.1)) ∙ at)) [
        | inl earlier ↦ omega (arith, number_below m (omega arith) k p earlier)
        | inr here ↦ omega (arith, visit_breaks-number m here.0 v.0 p here.2)
      ]

  breaks_below-ascend : (m : ℕ) → m ≤ length vs → Ascends IsToldBefore (breaks_below t vs m)
  breaks_below-ascend zero le = subst (Ascends IsToldBefore) (sym (breaks_below-zero t vs)) (λ i j x y lt at_i at_j. absurd (none-some x at_i))
  breaks_below-ascend (suc m) le =
      let v = at_below vs m (omega arith) in
      subst (Ascends IsToldBefore) (sym (breaks_below-more t vs m v.0 v.1))
      (Ascends-append IsToldBefore (breaks_below t vs m) (visit_breaks t m v.0) (breaks_below-ascend m (omega arith)) (visit_breaks-ascend m v.0)
      (λ i j p q at_i at_j. inl (omega (arith, number_below m (omega arith) i p at_i, visit_breaks-number m j v.0 q at_j))))

  pub told_below : Ascends IsToldBefore (breaks_below t vs (length vs))
  told_below = breaks_below-ascend (length vs) (omega arith)

pub told_in_order : StandInOrder → (s : Scope) (vs : List Visit) (broken : List (ℕ × Broken)) → IsExploration s vs broken → Ascends IsToldBefore broken
told_in_order stand s vs broken explored = subst (Ascends IsToldBefore) (sym explored.breaks) (told_below stand s.task vs)
