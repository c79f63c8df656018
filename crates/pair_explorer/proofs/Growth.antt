-- Visits that grow keep what held of them.
use Rattle.std.proofs.Common.{◌≡◌, ℕ, true, false, cond, List, [], ◌∷◌, ◌++◌, slice_get, Some, sym, ◌∙◌, ap}
use Rattle.std.proofs.lemmas.Map.Keys.{any_passes_from_place}
use Rattle.pair_rules.specs.Steps.{Triple}
use Rattle.pair_explorer.specs.declared.visits.Visit.{Visit}
use Rattle.pair_explorer.specs.Visits.{seen, has, IsVisit}
use Rattle.pair_explorer.specs.Adding.{added}
use Rattle.abi_base.proofs.lemmas.Lists.{any_found, slice_get-append}
use Rattle.pair_explorer.proofs.Triples.{same_triple-refl, same_triple-is}

-- what stands in `vs` stands in `ws`, at its place
pub record Extends (vs ws : List Visit) : Type 0 where
  pub kept : (n : ℕ) (v : Visit) → slice_get vs n ≡ Some v → slice_get ws n ≡ Some v

pub has-at : (vs : List Visit) (n : ℕ) (v : Visit) → slice_get vs n ≡ Some v → has vs (seen v) ≡ true
unfolding has
has-at vs n v e = any_passes_from_place _ vs n v e (same_triple-refl (seen v))

pub has_there : (vs : List Visit) (x : Triple) → IsVisit vs x → has vs x ≡ true
has_there vs x t = ap (has vs) (sym t.is) ∙ has-at vs t.number t.visit t.at

pub has_found : (vs : List Visit) (x : Triple) → has vs x ≡ true → IsVisit vs x
unfolding has
has_found vs x h =
    let f = any_found _ vs h in
    record { number = f.0; visit = f.1; at = f.2; is = sym (same_triple-is x (seen f.1) f.3) }

pub Extends-refl : (vs : List Visit) → Extends vs vs
Extends-refl vs = record { kept = λ n v e. e }

pub Extends-trans : {us vs ws : List Visit} → Extends us vs → Extends vs ws → Extends us ws
Extends-trans p q = record { kept = λ n v e. q.kept n v (p.kept n v e) }

pub Extends-added : (vs : List Visit) (x : Visit) → Extends vs (added vs x)
unfolding added
Extends-added vs x = elim (has vs (seen x)) as (λ b. Extends vs (cond b vs (vs ++ x ∷ []))) [
  | true ↦ Extends-refl vs
  | false ↦ record { kept = λ n v e. slice_get-append vs (x ∷ []) n v e }
]
