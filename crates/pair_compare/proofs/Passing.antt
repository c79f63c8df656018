-- What the exploration of the types passes, and what a view passes, the comparison passes.
use Rattle.std.proofs.Common.{◌≡◌, ap, inl, inr}
use Rattle.abi_base.specs.Outcome.{OnLimit}
use Rattle.abi_base.specs.declared.fault.NoMemory.{NoMemory}
use Rattle.abi_base.specs.declared.limit.Limit.{Limit}
use Rattle.abi_base.proofs.lemmas.Outcomes.{on_limit_weaker}
use Rattle.type_classes.specs.Classes.{PlainClasses}
use Rattle.pair_explorer.specs.Limits.{ExplorationPasses}
use Rattle.pair_explorer.specs.Scopes.{Scope}
use Rattle.cert_check.specs.Compatible.{Sides}
use Rattle.pair_compare.specs.Explored.{scope_of}
use Rattle.pair_compare.specs.Limits.{ViewPasses}
use Rattle.pair_compare.specs.reports.TypeFindings.{IsCoarse}

pub types_pass : (made : Sides → Limit → Type 0) (s : Sides) (old new : PlainClasses) (scope : Scope) (e : NoMemory) → scope ≡ scope_of s old new → IsCoarse scope → OnLimit e (ExplorationPasses scope)
    → OnLimit e (ViewPasses made s)
types_pass made s old new scope e is coarse h =
    on_limit_weaker e (ExplorationPasses scope) (ViewPasses made s)
    (λ l p. inl (record { scope = scope; is = ap (λ (x : Scope). x.task) is; coarse = coarse; passed = p })) h

pub view_passes : (made : Sides → Limit → Type 0) (s : Sides) (e : NoMemory) → OnLimit e (made s) → OnLimit e (ViewPasses made s)
view_passes made s e h = on_limit_weaker e (made s) (ViewPasses made s) (λ l p. inr p) h
