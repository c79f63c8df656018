-- The order of sections by their handles, and the search for a handle.
use Rattle.std.proofs.Common.{◌≡◌, ◌<◌, ◌≤◌, ◌+◌, ◌-◌, ℕ, Bool, true, false, List, length, take, drop, get_or, refl, sym, ap, ◌∙◌, inl, inr, arith}
use Rattle.std.specs.Prelude.{Contains}
use Rattle.std.specs.List.Sorted.{IsPartitionedBy, IsPartitionPoint}
use Rattle.std.specs.Cmp.{IsTotalOrder, IsStrictWeakOrder}
use Rattle.std.specs.Cmp.Lexicographic.{slice_cmp}
use Rattle.std.specs.Ordering.{nat_cmp, ordering_reverse, is_lt, is_le, is_gt}
use Rattle.std.specs.declared.cmp.Ordering.{Ordering}
use Rattle.std.specs.declared.cmp.Ordering.TheVariants.{Less, Equal, Greater}
use Rattle.std.proofs.lemmas.Bool.{cases_lt}
use Rattle.std.proofs.lemmas.Cmp.{nat_cmp_total, nat_list_cmp_total, then_total, on_total, tied_itself, upto}
use Rattle.std.proofs.lemmas.List.{length-drop, length-take-le, get_or-drop, get_or-take}
use Rattle.std.proofs.lemmas.List.Elements.{All-get_or}
use Rattle.std.proofs.lemmas.List.Sorted.{ranks_by, sorted_far}
use Rattle.abi_base.proofs.lemmas.Contained.{in_permutation}
use Rattle.abi_base.proofs.lemmas.Orders.{nat_equal, le_from_not_gt, not_gt_from_le, equal_between, le_from_lt, bytes_equal, then_equal}
use Rattle.suppressions.specs.Handles.{PlainHandle, handle_cmp, handle_at, place_cmp, IsHandleOrder, AreAt}
use Rattle.abi_types.proofs.lemmas.Ranges.{below_all}

-- ---- the order

pub handle_total : IsTotalOrder handle_cmp
handle_total = then_total (on_total (λ (h : PlainHandle). h.0) nat_cmp_total) (on_total (λ (h : PlainHandle). h.1) nat_list_cmp_total)

pub place_total : (handles : List PlainHandle) → IsTotalOrder (place_cmp handles)
place_total handles = on_total (handle_at handles) handle_total

pub place_weak : (handles : List PlainHandle) → IsStrictWeakOrder (λ (x y : ℕ). is_lt (place_cmp handles x y))
place_weak handles = ranks_by (place_total handles) (λ (k : ℕ). k)

not_above : (o : Ordering) → is_lt o ≡ false → is_gt (ordering_reverse o) ≡ false
not_above Less e = cc
not_above Equal e = refl
not_above Greater e = refl

less_down : (x y z : PlainHandle) → is_gt (handle_cmp x y) ≡ false → is_lt (handle_cmp y z) ≡ true → is_lt (handle_cmp x z) ≡ true
less_down x y z below less = go (handle_cmp x y) refl below where
  is_less : (o : Ordering) → is_lt o ≡ true → o ≡ Less
  is_less Less e = refl
  is_less Equal e = cc
  is_less Greater e = cc

  go : (o : Ordering) → handle_cmp x y ≡ o → is_gt o ≡ false → is_lt (handle_cmp x z) ≡ true
  go Less is e = ap is_lt (handle_total.trans x y z is (is_less (handle_cmp y z) less))
  go Equal is e = ap is_lt (handle_total.congr x y z is) ∙ less
  go Greater is e = cc

one_pair : (x y : PlainHandle) → x.0 ≡ y.0 → x.1 ≡ y.1 → x ≡ y
one_pair x y first second = λ i. (first i, second i)

pub one_handle : (x y : PlainHandle) → handle_cmp x y ≡ Equal → x ≡ y
one_handle x y e =
    let both = then_equal (nat_cmp x.0 y.0) (slice_cmp nat_cmp x.1 y.1) e in
    one_pair x y (nat_equal x.0 y.0 both.0) (bytes_equal x.1 y.1 both.1)

-- ---- a search

module _ (handles : List PlainHandle) (places : List ℕ) (handle : PlainHandle) (order : IsHandleOrder places handles) where
  abbrev pub is_before : ℕ → Bool
  is_before k = is_lt (handle_cmp (handle_at handles k) handle)

  abbrev pub is_upto : ℕ → Bool
  is_upto k = is_le (handle_cmp (handle_at handles k) handle)

  pub rise : (i j d : ℕ) → i ≤ j → j < length places → is_gt (place_cmp handles (get_or places i d) (get_or places j d)) ≡ false
  rise i j d le inside =
      ap is_gt ((place_total handles).antisymm (get_or places i d) (get_or places j d))
      ∙ not_above (place_cmp handles (get_or places j d) (get_or places i d)) (sorted_far (λ (x y : ℕ). is_lt (place_cmp handles x y)) (place_weak handles) places order.rises i j d le inside)

  pub before_parts : IsPartitionedBy is_before places
  before_parts i j d le inside passes = less_down (handle_at handles (get_or places i d)) (handle_at handles (get_or places j d)) handle (rise i j d le inside) passes

  pub upto_parts : IsPartitionedBy is_upto places
  upto_parts i j d le inside passes =
      le_from_not_gt (handle_cmp (handle_at handles (get_or places i d)) handle)
      (upto handle_total (handle_at handles (get_or places i d)) (handle_at handles (get_or places j d)) handle (rise i j d le inside) (not_gt_from_le (handle_cmp (handle_at handles (get_or places j d)) handle) passes))

  module _ (start end : ℕ) (starts : IsPartitionPoint (λ (k : ℕ). is_before k ≡ true) (λ (k : ℕ). is_before k ≡ false) places start) (ends : IsPartitionPoint (λ (k : ℕ). is_upto k ≡ true) (λ (k : ℕ). is_upto k ≡ false) places end) (past : end ≤ length places) (from : start ≤ length places) where
    pub start_le : start ≤ end
    start_le = elim (cases_lt end start) [
      | inl lt ↦ let before = starts.0 end 0 (omega arith) lt in
          let upto = ends.1 end 0 (omega arith) (omega arith) in
          let both = le_from_lt (handle_cmp (handle_at handles (get_or places end 0)) handle) before in cc
      | inr ge ↦ ge
    ]

    abbrev pub slice : List ℕ
    slice = take (end - start) (drop start places)

    slice_len : length slice ≡ end - start
    slice_len = length-take-le (end - start) (drop start places) (omega (arith, start_le, length-drop start places))

    slice_at : (i d : ℕ) → i < length slice → get_or slice i d ≡ get_or places (start + i) d
    slice_at i d inside =
        get_or-take (end - start) (drop start places) i d (omega (arith, slice_len, inside)) ∙ get_or-drop start places i d

    handle_is : (i d : ℕ) → i < length slice → handle_at handles (get_or slice i d) ≡ handle
    handle_is i d inside =
        let le = start_le in
        let len = slice_len in
        rw (slice_at i d inside) (one_handle (handle_at handles (get_or places (start + i) d)) handle (equal_between (handle_cmp (handle_at handles (get_or places (start + i) d)) handle) (starts.1 (start + i) d (omega arith) (omega arith)) (ends.0 (start + i) d (omega arith) (omega arith))))

    listed : (k : ℕ) → Contains slice k → (k < length handles) × (handle_at handles k ≡ handle)
    listed k has =
        let i = has.0 in
        let le = start_le in
        let len = slice_len in
        let inside = has.1 in
        let below = All-get_or (λ (m : ℕ). m < length handles) places (start + i) k (omega arith) (below_all (length handles) places order.all) in
        let here : get_or places (start + i) k ≡ k = sym (slice_at i k has.1) ∙ has.2 in
        (omega arith, ap (handle_at handles) (sym has.2) ∙ handle_is i k has.1)

    there : (k : ℕ) → (k < length handles) × (handle_at handles k ≡ handle) → Contains slice k
    there k is =
        let has = in_permutation (length handles) places k order.all is.0 in
        let m = has.0 in
        let inside = has.1 in
        let same : handle_cmp (handle_at handles (get_or places m k)) handle ≡ Equal =
        ap (λ (n : ℕ). handle_cmp (handle_at handles n) handle) has.2 ∙ ap (λ (h : PlainHandle). handle_cmp h handle) is.1 ∙ tied_itself handle_total handle in
        let low : start ≤ m = elim (cases_lt m start) [
          | inl lt ↦ let before = starts.0 m k (omega arith) lt in let no : is_before (get_or places m k) ≡ false = ap is_lt same in cc
          | inr ge ↦ ge
        ] in
        let high : m < end = elim (cases_lt m end) [
          | inl lt ↦ lt
          | inr ge ↦ let after = ends.1 m k ge has.1 in let yes : is_upto (get_or places m k) ≡ true = ap is_le same in cc
        ] in
        let len = slice_len in
        let lt : m - start < length slice = omega arith in
        let sum : start + (m - start) ≡ m = omega arith in
        (m - start, lt, slice_at (m - start) k lt ∙ ap (λ (n : ℕ). get_or places n k) sum ∙ has.2)

    pub AreAt-slice : AreAt handles handle slice
    AreAt-slice k = (listed k, there k)
