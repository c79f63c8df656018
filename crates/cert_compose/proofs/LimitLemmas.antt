-- Limits that a composition passes.
use Rattle.std.proofs.Common.{◌≡◌, ℕ, List, sym, ◌∙◌, ap, subst}
use Rattle.abi_base.specs.Outcome.{OnLimit}
use Rattle.abi_base.specs.declared.fault.NoMemory.{NoMemory as Cause}
use Rattle.abi_base.specs.declared.fault.NoMemory.TheVariants.{Allocation}
use Rattle.abi_base.specs.declared.limit.Limit.{Limit}
use Rattle.abi_base.proofs.lemmas.Outcomes.{on_limit_weaker}
use Rattle.cert_check.specs.declared.refused.Refused.{Refused}
use Rattle.cert_compose.specs.Chains.{PlainChain}
use Rattle.cert_compose.specs.Limits.{AreMiddles, CompositionPasses, JoinsPass, OnRefusal}
use Rattle.cert_compose.specs.declared.refusal.ComposeRefusal.{ComposeRefusal}
use Rattle.cert_compose.specs.declared.refusal.ComposeRefusal.TheVariants.{Between, NoMemory}

-- a loss, and an allocation that fails, pass no limit
pub loss_passes : (e : ComposeRefusal) (lost : Refused) (P : Limit → Type 0) → e ≡ Between lost → OnRefusal e P
loss_passes e lost P is = subst (λ (x : ComposeRefusal). OnRefusal x P) (sym is) tt

pub allocation_passes : (e : ComposeRefusal) (cause : Cause) (P : Limit → Type 0) → e ≡ NoMemory cause → cause ≡ Allocation → OnRefusal e P
allocation_passes e cause P is named = subst (λ (x : ComposeRefusal). OnRefusal x P) (sym (is ∙ ap (λ (c : Cause). NoMemory c) named)) tt

-- a refusal that passes no limit
pub refusal_passes : (ch : PlainChain) (e : ComposeRefusal) → OnRefusal e (λ l. ⊥) → OnRefusal e (CompositionPasses ch)
refusal_passes ch (Between lost) h = h
refusal_passes ch (NoMemory cause) h = on_limit_weaker cause (λ l. ⊥) (CompositionPasses ch) (λ l p. absurd p) h

-- what the joined lines pass
pub composition_passes : (ch : PlainChain) (middles : List (ℕ × ℕ)) (cause : Cause) → AreMiddles ch middles → OnLimit cause (JoinsPass ch middles) → OnLimit cause (CompositionPasses ch)
composition_passes ch middles cause are h = on_limit_weaker cause (JoinsPass ch middles) (CompositionPasses ch) (λ l p. (middles, are, p)) h
