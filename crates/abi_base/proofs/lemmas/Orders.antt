-- Laws of comparisons of numbers and of bytes.
use Rattle.std.specs.Prelude.{false, ◌==◌}
use Rattle.std.proofs.Common.{ℕ, arith, ◌≡◌, ◌≢◌, true, List, sym, refl, ◌≤◌, ap, ◌∙◌, ◌<◌}
use Rattle.std.proofs.lemmas.Slice.Eq.{bytes_eq-Decides}
use Rattle.std.specs.Str.{bytes_eq}
use Rattle.std.proofs.lemmas.Bool.Decides.{nat_tests}
use Rattle.std.specs.declared.cmp.Ordering.TheVariants.{Less, Equal, Greater}
use Rattle.std.specs.Ordering.{nat_cmp, ordering_then, ordering_index, is_le, is_gt, is_lt, is_eq}
use Rattle.std.proofs.lemmas.Cmp.{ranked}
use Rattle.std.specs.declared.cmp.Ordering.{Ordering}
use Rattle.std.specs.Cmp.Lexicographic.{slice_cmp}
use Rattle.std.proofs.lemmas.Map.Text.{is_eq-slice_cmp}

pub not_zero : (n : ℕ) → n ≢ 0 → (n == 0) ≡ false
not_zero n ne = grind arith

pub bytes_eq-same : (xs ys : List ℕ) → xs ≡ ys → bytes_eq xs ys ≡ true
bytes_eq-same xs ys = (bytes_eq-Decides xs ys).1

pub bytes_eq-is_same : (xs ys : List ℕ) → bytes_eq xs ys ≡ true → xs ≡ ys
bytes_eq-is_same xs ys = (bytes_eq-Decides xs ys).0

pub not_same : (m n : ℕ) → (m ≡ n → ⊥) → (m == n) ≡ false
not_same m n h = grind (arith, nat_tests)

pub less_is_not_equal : Less ≡ Equal → ⊥
less_is_not_equal e = cc

pub nat_equal : (x y : ℕ) → nat_cmp x y ≡ Equal → x ≡ y
nat_equal x y e = ranked x y Equal (sym e)

pub then_equal : (a b : Ordering) → ordering_then a b ≡ Equal → (a ≡ Equal) × (b ≡ Equal)
then_equal Less b e = absurd cc
then_equal Equal b e = (refl, e)
then_equal Greater b e = absurd cc

pub index_le : (m n e : ℕ) → m ≤ n → ordering_index (nat_cmp m e) ≤ ordering_index (nat_cmp n e)
index_le m n e le = grind (arith, nat_tests)

pub le_from_not_gt : (o : Ordering) → is_gt o ≡ false → is_le o ≡ true
le_from_not_gt Less e = refl
le_from_not_gt Equal e = refl
le_from_not_gt Greater e = cc

pub not_gt_from_le : (o : Ordering) → is_le o ≡ true → is_gt o ≡ false
not_gt_from_le Less e = refl
not_gt_from_le Equal e = refl
not_gt_from_le Greater e = cc

pub equal_between : (o : Ordering) → is_lt o ≡ false → is_le o ≡ true → o ≡ Equal
equal_between Less e f = cc
equal_between Equal e f = refl
equal_between Greater e f = cc

pub le_from_lt : (o : Ordering) → is_lt o ≡ true → is_le o ≡ true
le_from_lt Less e = refl
le_from_lt Equal e = cc
le_from_lt Greater e = cc

pub bytes_equal : (x y : List ℕ) → slice_cmp nat_cmp x y ≡ Equal → x ≡ y
bytes_equal x y e = (bytes_eq-Decides x y).0 (sym (is_eq-slice_cmp x y) ∙ ap is_eq e)

pub nat_less : (x y : ℕ) → x < y → nat_cmp x y ≡ Less
nat_less x y less = grind (arith, nat_tests)

pub bytes_eq-refl : (xs : List ℕ) → bytes_eq xs xs ≡ true
bytes_eq-refl xs = (bytes_eq-Decides xs xs).1 refl
