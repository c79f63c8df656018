-- Laws of what may be absent.
use Rattle.std.proofs.Common.{ℕ, Option, None, Some, true, refl, ◌≡◌, rules, suc, ap, false, Bool}
use Rattle.std.specs.Prelude.{is_none, IsSome, is_some}
use Rattle.std.specs.Option.{option_map}

pub is_none-true : (o : Option ℕ) → is_none o ≡ true → o ≡ None
is_none-true None e = refl
is_none-true (Some x) e = cc

pub some_of : (o : Option ℕ) → IsSome o → (n : ℕ) × (o ≡ Some n)
some_of None is = absurd (search rules)
some_of (Some n) is = (n, refl)

pub one_less : (o : Option ℕ) (i : ℕ) → option_map suc o ≡ Some i → (j : ℕ) × (o ≡ Some j) × (i ≡ suc j)
one_less None i e = absurd cc
one_less (Some j) i e = (j, refl, cc)

pub not_one_more : (o : Option ℕ) → option_map suc o ≡ None → o ≡ None
not_one_more None e = refl
not_one_more (Some j) e = absurd cc

pub some_same : {X : Type 0} (x y : X) → Some x ≡ Some y → x ≡ y
some_same x y e = cc

pub option_map-same : (s t : ℕ → ℕ) → ((j : ℕ) → s j ≡ t j) → (o : Option ℕ) → option_map s o ≡ option_map t o
option_map-same s t same None = refl
option_map-same s t same (Some j) = ap Some (same j)

pub absent : {X : Type 0} (o : Option X) (b : Bool) → b ≡ is_some o → b ≡ false → o ≡ None
absent None b is none = refl
absent (Some x) b is none = absurd cc
