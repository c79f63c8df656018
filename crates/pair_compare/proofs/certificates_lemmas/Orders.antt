-- What a sort makes of lines that differ.
use Rattle.std.proofs.Common.{◌≡◌, ◌<◌, ℕ, Bool, true, false, List, length, get_or, refl, ◌∙◌, ap}
use Rattle.std.specs.Cmp.{IsTotalOrder, bool_cmp_total}
use Rattle.std.specs.List.Sorted.{IsPermutation, IsSorted}
use Rattle.std.specs.Ordering.{is_eq, eq_by_cmp, nat_cmp, bool_cmp, ordering_then}
use Rattle.std.specs.declared.cmp.Ordering.{Ordering}
use Rattle.std.specs.declared.cmp.Ordering.TheVariants.{Less, Equal, Greater}
use Rattle.std.proofs.lemmas.Cmp.{nat_cmp_total, on_total, then_total}
use Rattle.std.proofs.lemmas.Map.Keys.{IsDistinct-from_apart, Less-from_sorted}
use Rattle.abi_base.proofs.lemmas.Orders.{nat_equal, then_equal}
use Rattle.abi_types.specs.declared.kind.Way.{Way}
use Rattle.abi_types.specs.declared.kind.Way.TheVariants.{Direct, Pointer}
use Rattle.abi_base.proofs.lemmas.Sorts.{strictly_from_sort}
use Rattle.cert_text.specs.Certs.{Ascend, PairLine, first_cmp, pair_cmp, is_pointer}

pub sorted_ascends : {K : Type 0} {R : K → K → Ordering} (o : IsTotalOrder R) (xs ys : List K) → IsPermutation xs ys → IsSorted R ys
    → ((i j : ℕ) (d : K) → i < j → j < length xs → eq_by_cmp R (get_or xs i d) (get_or xs j d) ≡ false) → Ascend R ys
sorted_ascends {R = R} o xs ys moved sorted apart i j d less inside = Less-from_sorted R ys i j d (strictly_from_sort o xs ys moved sorted (IsDistinct-from_apart (eq_by_cmp R) xs apart)) less inside

pub first_cmp_total : IsTotalOrder first_cmp
first_cmp_total = on_total (λ (x : ℕ × ℕ). x.0) nat_cmp_total

pub pair_cmp_total : IsTotalOrder pair_cmp
pair_cmp_total = then_total (then_total (on_total (λ (x : PairLine). x.0) nat_cmp_total) (on_total (λ (x : PairLine). x.1) nat_cmp_total)) (on_total (λ (x : PairLine). is_pointer x.2) bool_cmp_total)

-- ---- equal by an order

bool_equal : (x y : Bool) → bool_cmp x y ≡ Equal → x ≡ y
bool_equal false false e = refl
bool_equal false true e = absurd cc
bool_equal true false e = absurd cc
bool_equal true true e = refl

pub is_equal : (r : Ordering) → is_eq r ≡ true → r ≡ Equal
is_equal Less e = absurd cc
is_equal Equal e = refl
is_equal Greater e = absurd cc

same_way : (v w : Way) → is_pointer v ≡ is_pointer w → v ≡ w
same_way Direct Direct e = refl
same_way Direct Pointer e = absurd cc
same_way Pointer Direct e = absurd cc
same_way Pointer Pointer e = refl

pub first_same : (x y : ℕ × ℕ) → eq_by_cmp first_cmp x y ≡ true → x.0 ≡ y.0
first_same x y e = nat_equal x.0 y.0 (is_equal (first_cmp x y) e)

-- lines that are equal by their order
pub record AreOneLine (x y : PairLine) : Type 0 where
  pub old : x.0 ≡ y.0
  pub new : x.1 ≡ y.1
  pub way : x.2 ≡ y.2

pub pair_same : (x y : PairLine) → eq_by_cmp pair_cmp x y ≡ true → AreOneLine x y
pair_same x y e =
    let all = then_equal (ordering_then (nat_cmp x.0 y.0) (nat_cmp x.1 y.1)) (bool_cmp (is_pointer x.2) (is_pointer y.2)) (is_equal (pair_cmp x y) e) in
    let both = then_equal (nat_cmp x.0 y.0) (nat_cmp x.1 y.1) all.0 in
    record { old = nat_equal x.0 y.0 both.0; new = nat_equal x.1 y.1 both.1; way = same_way x.2 y.2 (bool_equal (is_pointer x.2) (is_pointer y.2) all.1) }

pub pair_eq : (x y : PairLine) → AreOneLine x y → x ≡ y
pair_eq x y is =
    let mk : ℕ → ℕ → Way → PairLine = λ m n w. (m, n, w) in
    ap (λ (m : ℕ). mk m x.1 x.2) is.old ∙ ap (λ (n : ℕ). mk y.0 n x.2) is.new ∙ ap (mk y.0 y.1) is.way

pub line_eq : (x y : ℕ × ℕ) → x.0 ≡ y.0 → x.1 ≡ y.1 → x ≡ y
line_eq x y a b =
    let mk : ℕ → ℕ → ℕ × ℕ = λ m n. (m, n) in
    ap (λ (m : ℕ). mk m x.1) a ∙ ap (mk y.0) b
