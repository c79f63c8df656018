-- Positions in the order of their keys, and searches by key.
use Rattle.std.proofs.Common.{◌≡◌, ◌≢◌, ◌<◌, ◌≤◌, ◌+◌, ◌-◌, ℕ, Bool, true, false, List, length, take, drop, get_or, Some, refl, sym, ap, ◌∙◌, inl, inr, arith}
use Rattle.std.specs.Prelude.{◌==◌, slice_get, Contains, IsPermutation, IsSorted}
use Rattle.std.specs.List.{range_with_len, IsDistinct}
use Rattle.std.specs.List.Sorted.{IsPartitionedBy, IsPartitionPoint}
use Rattle.std.specs.Cmp.{IsTotalOrder, IsStrictWeakOrder}
use Rattle.std.specs.Ordering.{nat_cmp, ordering_then, ordering_reverse, is_lt, is_le, is_gt}
use Rattle.std.specs.declared.cmp.Ordering.{Ordering}
use Rattle.std.specs.declared.cmp.Ordering.TheVariants.{Less, Equal, Greater}
use Rattle.std.proofs.lemmas.Bool.{cases_lt}
use Rattle.std.proofs.lemmas.Bool.Decides.{nat_tests}
use Rattle.std.proofs.lemmas.Cmp.{nat_cmp_total, then_total, on_total, tied_back, upto}
use Rattle.std.proofs.lemmas.List.{length-drop, length-take-le, get_or-drop, get_or-take}
use Rattle.std.proofs.lemmas.List.Elements.{All-get_or}
use Rattle.std.proofs.lemmas.List.FromFn.{length-range_with_len, get_or-range_with_len}
use Rattle.std.proofs.lemmas.List.Sorted.{ranks_by, sorted_far}
use Rattle.std.proofs.lemmas.Map.Keys.{IsDistinct-from_apart, IsDistinct-IsPermutation, apart_from_distinct}
use Rattle.std.proofs.lemmas.Option.{slice_get_within, get_or_from_slice_get}
use Rattle.abi_base.proofs.lemmas.Orders.{le_from_not_gt, not_gt_from_le, equal_between, le_from_lt}
use Rattle.abi_base.proofs.lemmas.Contained.{in_permutation}
use Rattle.abi_types.proofs.lemmas.Ranges.{below_all}

-- ---- orders

not_above : (o q : Ordering) → is_lt (ordering_then o q) ≡ false → is_gt (ordering_reverse o) ≡ false
not_above Less q e = cc
not_above Equal q e = refl
not_above Greater q e = refl

second_kept : (o q : Ordering) → o ≡ Equal → is_lt (ordering_then o q) ≡ false → is_lt q ≡ false
second_kept Less q same e = cc
second_kept Equal q same e = e
second_kept Greater q same e = cc

not_less : (x y : ℕ) → is_lt (nat_cmp x y) ≡ false → y ≤ x
not_less x y e = elim (cases_lt x y) [
  | inl lt ↦ let less : is_lt (nat_cmp x y) ≡ true = grind (arith, nat_tests) in cc
  | inr ge ↦ ge
]

less_down : {K : Type 0} {R : K → K → Ordering} (order : IsTotalOrder R) (x y z : K) → is_gt (R x y) ≡ false → is_lt (R y z) ≡ true → is_lt (R x z) ≡ true
less_down {R = R} order x y z below less = go (R x y) refl below where
  is_less : (o : Ordering) → is_lt o ≡ true → o ≡ Less
  is_less Less e = refl
  is_less Equal e = cc
  is_less Greater e = cc

  go : (o : Ordering) → R x y ≡ o → is_gt o ≡ false → is_lt (R x z) ≡ true
  go Less is e = ap is_lt (order.trans x y z is (is_less (R y z) less))
  go Equal is e = ap is_lt (order.congr x y z is) ∙ less
  go Greater is e = cc

-- ---- all positions

apart : (n : ℕ) (places : List ℕ) (i j d : ℕ) → IsPermutation (range_with_len 0 n) places → i < j → j < length places → get_or places i d ≢ get_or places j d
apart n places i j d moved lt inside same =
    let ranged : IsDistinct ◌==◌ (range_with_len 0 n) = IsDistinct-from_apart ◌==◌ (range_with_len 0 n) (λ a b e less below.
    let far : b < n = rw (length-range_with_len 0 n) at below in
    let one : get_or (range_with_len 0 n) a e ≡ 0 + a = get_or-range_with_len 0 n a e (omega arith) in
    let two : get_or (range_with_len 0 n) b e ≡ 0 + b = get_or-range_with_len 0 n b e far in
    rw (one, two) (grind arith)) in
    let distinct = IsDistinct-IsPermutation ◌==◌ (λ x y. grind (arith, nat_tests)) (range_with_len 0 n) places moved ranged in
    let differ : (get_or places i d == get_or places j d) ≡ false = apart_from_distinct ◌==◌ places i j d distinct lt inside in
    grind arith

-- ---- a search

module _ {K : Type 0} (R : K → K → Ordering) (total : IsTotalOrder R) (key : ℕ → K) where
  -- by key, and those of one key by position
  abbrev pub key_cmp : ℕ → ℕ → Ordering
  key_cmp a b = ordering_then (R (key a) (key b)) (nat_cmp a b)

  pub key_weak : IsStrictWeakOrder (λ (x y : ℕ). is_lt (key_cmp x y))
  key_weak = ranks_by (then_total (on_total key total) nat_cmp_total) (λ (k : ℕ). k)

  module _ (n : ℕ) (places : List ℕ) (all : IsPermutation (range_with_len 0 n) places) (rises : IsSorted key_cmp places) (x : K) where
    abbrev pub is_before : ℕ → Bool
    is_before k = is_lt (R (key k) x)

    abbrev pub is_upto : ℕ → Bool
    is_upto k = is_le (R (key k) x)

    far : (i j d : ℕ) → i ≤ j → j < length places → is_lt (key_cmp (get_or places j d) (get_or places i d)) ≡ false
    far i j d le inside = sorted_far (λ (x y : ℕ). is_lt (key_cmp x y)) key_weak places rises i j d le inside

    keys_rise : (i j d : ℕ) → i ≤ j → j < length places → is_gt (R (key (get_or places i d)) (key (get_or places j d))) ≡ false
    keys_rise i j d le inside =
        ap is_gt (total.antisymm (key (get_or places i d)) (key (get_or places j d)))
        ∙ not_above (R (key (get_or places j d)) (key (get_or places i d))) (nat_cmp (get_or places j d) (get_or places i d)) (far i j d le inside)

    pub before_parts : IsPartitionedBy is_before places
    before_parts i j d le inside passes = less_down total (key (get_or places i d)) (key (get_or places j d)) x (keys_rise i j d le inside) passes

    pub upto_parts : IsPartitionedBy is_upto places
    upto_parts i j d le inside passes =
        le_from_not_gt (R (key (get_or places i d)) x)
        (upto total (key (get_or places i d)) (key (get_or places j d)) x (keys_rise i j d le inside) (not_gt_from_le (R (key (get_or places j d)) x) passes))

    module _ (start end : ℕ) (starts : IsPartitionPoint (λ (k : ℕ). is_before k ≡ true) (λ (k : ℕ). is_before k ≡ false) places start) (ends : IsPartitionPoint (λ (k : ℕ). is_upto k ≡ true) (λ (k : ℕ). is_upto k ≡ false) places end) (past : end ≤ length places) (from : start ≤ length places) where
      pub start_le : start ≤ end
      start_le = elim (cases_lt end start) [
        | inl lt ↦ let before = starts.0 end 0 (omega arith) lt in
            let upto = ends.1 end 0 (omega arith) (omega arith) in
            let both = le_from_lt (R (key (get_or places end 0)) x) before in cc
        | inr ge ↦ ge
      ]

      abbrev pub slice : List ℕ
      slice = take (end - start) (drop start places)

      slice_len : length slice ≡ end - start
      slice_len = length-take-le (end - start) (drop start places) (omega (arith, start_le, length-drop start places))

      slice_at : (i d : ℕ) → i < length slice → get_or slice i d ≡ get_or places (start + i) d
      slice_at i d inside =
          get_or-take (end - start) (drop start places) i d (omega (arith, slice_len, inside)) ∙ get_or-drop start places i d

      tied_at : (i d : ℕ) → i < length slice → R (key (get_or places (start + i) d)) x ≡ Equal
      tied_at i d inside =
          let le = start_le in
          let len = slice_len in
          equal_between (R (key (get_or places (start + i) d)) x) (starts.1 (start + i) d (omega arith) (omega arith)) (ends.0 (start + i) d (omega arith) (omega arith))

      rising : (i j d : ℕ) → i < j → j < length slice → get_or slice i d < get_or slice j d
      rising i j d lt inside =
          let le = start_le in
          let len = slice_len in
          let one = slice_at i d (omega arith) in
          let two = slice_at j d inside in
          let same : R (key (get_or places (start + j) d)) (key (get_or places (start + i) d)) ≡ Equal =
          total.congr (key (get_or places (start + j) d)) x (key (get_or places (start + i) d)) (tied_at j d inside) ∙ tied_back total (key (get_or places (start + i) d)) x (tied_at i d (omega arith)) in
          let kept = second_kept _ (nat_cmp (get_or places (start + j) d) (get_or places (start + i) d)) same (far (start + i) (start + j) d (omega arith) (omega arith)) in
          let no_more = not_less (get_or places (start + j) d) (get_or places (start + i) d) kept in
          let differ = apart n places (start + i) (start + j) d all (omega arith) (omega arith) in
          rw (one, two) (omega arith)

      pub ascends : (i j k l : ℕ) → i < j → slice_get slice i ≡ Some k → slice_get slice j ≡ Some l → k < l
      ascends i j k l lt at_i at_j =
          let inside = slice_get_within slice j l at_j in
          let one = get_or_from_slice_get slice i k 0 at_i in
          let two = get_or_from_slice_get slice j l 0 at_j in
          let less = rising i j 0 lt inside in
          omega arith

      -- a position that is listed has the key
      pub listed_below : (k : ℕ) → Contains slice k → k < n
      listed_below k has =
          let le = start_le in
          let len = slice_len in
          let inside = has.1 in
          let below = All-get_or (λ (m : ℕ). m < n) places (start + has.0) k (omega arith) (below_all n places all) in
          let here : get_or places (start + has.0) k ≡ k = sym (slice_at has.0 k has.1) ∙ has.2 in
          omega arith

      pub listed_tied : (k : ℕ) → Contains slice k → R (key k) x ≡ Equal
      listed_tied k has =
          let here : get_or places (start + has.0) k ≡ k = sym (slice_at has.0 k has.1) ∙ has.2 in
          ap (λ (m : ℕ). R (key m) x) (sym here) ∙ tied_at has.0 k has.1

      -- and each position that has the key is listed
      pub there : (k : ℕ) → k < n → R (key k) x ≡ Equal → Contains slice k
      there k below tied =
          let has = in_permutation n places k all below in
          let m = has.0 in
          let inside = has.1 in
          let same : R (key (get_or places m k)) x ≡ Equal = ap (λ (p : ℕ). R (key p) x) has.2 ∙ tied in
          let low : start ≤ m = elim (cases_lt m start) [
            | inl lt ↦ let before = starts.0 m k (omega arith) lt in let no : is_before (get_or places m k) ≡ false = ap is_lt same in cc
            | inr ge ↦ ge
          ] in
          let high : m < end = elim (cases_lt m end) [
            | inl lt ↦ lt
            | inr ge ↦ let after = ends.1 m k ge has.1 in let yes : is_upto (get_or places m k) ≡ true = ap is_le same in cc
          ] in
          let len = slice_len in
          let lt : m - start < length slice = omega arith in
          let sum : start + (m - start) ≡ m = omega arith in
          (m - start, lt, slice_at (m - start) k lt ∙ ap (λ (p : ℕ). get_or places p k) sum ∙ has.2)
