-- Comparisons of numbers.
use Rattle.std.proofs.Common.{◌≡◌, ◌<◌, ℕ, sym}
use Rattle.std.specs.Ordering.{nat_cmp}
use Rattle.std.specs.declared.cmp.Ordering.TheVariants.{Less, Equal}
use Rattle.std.proofs.lemmas.Cmp.{ranked}
use Rattle.std.specs.Cmp.{nat_cmp_is}

pub nat_less_is : (x y : ℕ) → nat_cmp x y ≡ Less → x < y
nat_less_is x y e = ranked x y Less (sym e)

pub nat_same : (m n : ℕ) → m ≡ n → nat_cmp m n ≡ Equal
nat_same m n e = sym (nat_cmp_is m n Equal e)
