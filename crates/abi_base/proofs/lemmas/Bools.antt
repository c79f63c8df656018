-- Laws of truth values.
use Rattle.std.proofs.Common.{Bool, true, false, cond, refl, ◌≡◌, not, ap, ◌∙◌, sym, ap₂}
use Rattle.std.specs.Prelude.{◌||◌, ◌&&◌}
use Rattle.std.specs.Bool.{beq}

pub or_is_false : (a b : Bool) → (a || b) ≡ false → (a ≡ false) × (b ≡ false)
or_is_false true b e = cc
or_is_false false b e = (refl, e)

pub or_true : (b : Bool) → (b || true) ≡ true
or_true true = refl
or_true false = refl

pub and_false : (b : Bool) → (b && false) ≡ false
and_false true = refl
and_false false = refl

pub not_is_true : (b : Bool) → not b ≡ true → b ≡ false
not_is_true false e = refl
not_is_true true e = absurd cc

pub not_is_false : (b : Bool) → not b ≡ false → b ≡ true
not_is_false true e = refl
not_is_false false e = cc

pub and_same : (a b c d : Bool) → a ≡ b → c ≡ d → (a && c) ≡ (b && d)
and_same a b c d p q = ap (λ x. x && c) p ∙ ap (λ y. b && y) q

pub beq_is_same : (a b : Bool) → beq a b ≡ true → a ≡ b
beq_is_same true true e = refl
beq_is_same false false e = refl
beq_is_same a b e = absurd cc

pub beq_same : (b : Bool) → beq b b ≡ true
beq_same true = refl
beq_same false = refl

pub and_is_true : (a b : Bool) → (a && b) ≡ true → (a ≡ true) × (b ≡ true)
and_is_true true b h = (refl, h)
and_is_true false b h = absurd cc

pub or_false : (b : Bool) → (b || false) ≡ b
or_false true = refl
or_false false = refl

pub same_tests : (a b : Bool) → (a ≡ true → b ≡ true) → (b ≡ true → a ≡ true) → a ≡ b
same_tests true b to back = sym (to refl)
same_tests false true to back = back refl
same_tests false false to back = refl

pub and_of_true : (a b : Bool) → a ≡ true → b ≡ true → (a && b) ≡ true
and_of_true a b p q = ap₂ ◌&&◌ p q

pub or_left_false : (a b : Bool) → (a || b) ≡ false → a ≡ false
or_left_false false b e = refl
or_left_false true b e = absurd cc

pub and_left_true : (a b : Bool) → (a && b) ≡ true → a ≡ true
and_left_true true b h = refl
and_left_true false b h = h

-- whether a key is in a set after one is put in that may be it
pub cond_last : (b c : Bool) → cond b true c ≡ (c || (b || false))
cond_last true true = refl
cond_last true false = refl
cond_last false true = refl
cond_last false false = refl
