-- Laws of truth values.
use Rattle.std.proofs.Common.{◌≡◌, true, refl, false, Bool, cond, ◌||◌}
use Rattle.std.specs.Prelude.{◌↔◌}

pub always : (P : Type 0) → P → (true ≡ true) ↔ P
always P p = (λ t. p, λ q. refl)

pub never : {P : Type 0} → (P → ⊥) → (false ≡ true) ↔ P
never other = (λ bad. absurd cc, λ p. absurd (other p))

pub cond_or : (a b : Bool) → cond a true b ≡ (b || a)
cond_or true true = refl
cond_or true false = refl
cond_or false true = refl
cond_or false false = refl
