-- Exports in order of their names, and searches by name.
use Rattle.std.proofs.Common.{◌≡◌, ◌<◌, ◌≤◌, ◌-◌, ℕ, Bool, true, false, List, length, take, drop, Some, refl, sym, ap, ◌∙◌, inl, inr, arith}
use Rattle.std.specs.Prelude.{slice_get}
use Rattle.std.specs.List.Sorted.{IsPartitionPoint}
use Rattle.std.specs.Cmp.Lexicographic.{slice_cmp}
use Rattle.std.specs.Ordering.{nat_cmp, is_lt, is_le}
use Rattle.std.proofs.lemmas.Cmp.{nat_list_cmp_total, tied_itself}
use Rattle.std.proofs.lemmas.Option.{slice_get_cases, slice_get_within}
use Rattle.abi_base.proofs.lemmas.Orders.{bytes_equal}
use Rattle.abi_types.specs.Exports.{PlainExport}
use Rattle.abi_types.specs.Names.{name_at, named_cmp, IsNamed, AreNamed, IsNameOrder}
use Rattle.abi_types.proofs.KeyLemmas as keys

-- ---- names

IsNamed-from : (exports : List PlainExport) (name : List ℕ) (k : ℕ) → k < length exports → name_at exports k ≡ name → IsNamed exports name k
IsNamed-from exports name k inside is = elim (slice_get_cases exports k).1 [
  | inl found ↦ let at : slice_get exports k ≡ Some found.0 = found.2 in
      let here : name_at exports k ≡ found.0.name = rw at refl in
      record { exported = found.0; at = at; named = sym here ∙ is }
  | inr past ↦ let over = past.0 in absurd (omega arith)
]

name_at-IsNamed : (exports : List PlainExport) (name : List ℕ) (k : ℕ) → IsNamed exports name k → name_at exports k ≡ name
name_at-IsNamed exports name k is = let at = is.at in let here : name_at exports k ≡ is.exported.name = rw at refl in here ∙ is.named

-- ---- a search

module _ (exports : List PlainExport) (places : List ℕ) (name : List ℕ) (order : IsNameOrder places exports) (start end : ℕ)
    (starts : IsPartitionPoint (λ (k : ℕ). is_lt (named_cmp exports name k) ≡ true) (λ (k : ℕ). is_lt (named_cmp exports name k) ≡ false) places start)
    (ends : IsPartitionPoint (λ (k : ℕ). is_le (named_cmp exports name k) ≡ true) (λ (k : ℕ). is_le (named_cmp exports name k) ≡ false) places end)
    (past : end ≤ length places) (from : start ≤ length places) where
  pub start_le : start ≤ end
  start_le = keys.start_le (slice_cmp nat_cmp) nat_list_cmp_total (name_at exports) (length exports) places order.all order.rises name start end starts ends past from

  abbrev pub slice : List ℕ
  slice = take (end - start) (drop start places)

  pub AreNamed-slice : AreNamed exports name slice
  AreNamed-slice = record {
    ascend = keys.ascends (slice_cmp nat_cmp) nat_list_cmp_total (name_at exports) (length exports) places order.all order.rises name start end starts ends past from;
    exact = λ k. (
      λ has.
          IsNamed-from exports name k
          (keys.listed_below (slice_cmp nat_cmp) nat_list_cmp_total (name_at exports) (length exports) places order.all order.rises name start end starts ends past from k has)
          (bytes_equal (name_at exports k) name (keys.listed_tied (slice_cmp nat_cmp) nat_list_cmp_total (name_at exports) (length exports) places order.all order.rises name start end starts ends past from k has)),
      λ is.
          keys.there (slice_cmp nat_cmp) nat_list_cmp_total (name_at exports) (length exports) places order.all order.rises name start end starts ends past from k
          (slice_get_within exports k is.exported is.at)
          (ap (λ (n : List ℕ). slice_cmp nat_cmp n name) (name_at-IsNamed exports name k is) ∙ tied_itself nat_list_cmp_total name),
    );
  }
