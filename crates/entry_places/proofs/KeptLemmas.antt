-- Values that are kept by their numbers, as one more is.
use Rattle.std.proofs.Common.{◌≡◌, ℕ, Bool, cond, [], Option, Some, sym, subst, ap, ◌∙◌, inl, inr}
use Rattle.std.specs.Prelude.{◌==◌, IfSome}
use Rattle.std.specs.BTreeMap.{BTreeMap, get}
use Rattle.std.specs.Ordering.{eq_by_cmp, nat_cmp}
use Rattle.std.proofs.lemmas.Bool.{cases_Bool, eqb-true}
use Rattle.std.specs.Cmp.{unsigned_tied}
use Rattle.entry_places.specs.Known.{AreAll}

pub kept_none : {V : Type 0} (Is : ℕ → V → Type 0) (kept : BTreeMap ℕ V) → kept.entries ≡ [] → AreAll Is kept
kept_none Is kept empty = record { each = λ n. rw empty tt }

pub kept_more : {V : Type 0} (Is : ℕ → V → Type 0) (old new : BTreeMap ℕ V) (n : ℕ) (value : V) → AreAll Is old → Is n value
    → ((q : ℕ) → get nat_cmp new q ≡ cond (eq_by_cmp nat_cmp n q) (Some value) (get nat_cmp old q)) → AreAll Is new
kept_more {V = V} Is old new n value so_far is adds = record { each = λ q. subst (λ (o : Option V). IfSome o (Is q)) (sym (updated q)) (under q) }
  where
    updated : (q : ℕ) → get nat_cmp new q ≡ cond (n == q) (Some value) (get nat_cmp old q)
    updated q = adds q ∙ ap (λ (b : Bool). cond b (Some value) (get nat_cmp old q)) (unsigned_tied n q)

    under : (q : ℕ) → IfSome (cond (n == q) (Some value) (get nat_cmp old q)) (Is q)
    under q = elim (cases_Bool (n == q)) [
      | inl here ↦ rw here (subst (λ (m : ℕ). Is m value) (eqb-true n q here) is)
      | inr apart ↦ rw apart (so_far.each q)
    ]
