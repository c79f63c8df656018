-- Exports in order of their names and versions, and searches by both.
use Rattle.std.proofs.Common.{◌≡◌, ◌<◌, ◌≤◌, ◌-◌, ℕ, Bool, true, false, List, length, take, drop, Option, Some, None, refl, sym, ap, ◌∙◌, inl, inr, arith}
use Rattle.std.specs.Prelude.{slice_get}
use Rattle.std.specs.Borrow.{Bor}
use Rattle.std.specs.Cmp.{IsTotalOrder}
use Rattle.std.specs.Cmp.Lexicographic.{slice_cmp}
use Rattle.std.specs.List.Sorted.{IsPartitionPoint}
use Rattle.std.specs.Option.{option_cmp, option_copied}
use Rattle.std.specs.Ordering.{nat_cmp, ordering_then, ordering_reverse, is_lt, is_le}
use Rattle.std.specs.declared.cmp.Ordering.{Ordering}
use Rattle.std.specs.declared.cmp.Ordering.TheVariants.{Less, Equal, Greater}
use Rattle.std.proofs.lemmas.Cmp.{nat_list_cmp_total, then_total, on_total, tied_itself}
use Rattle.std.proofs.lemmas.Option.{slice_get_cases, slice_get_within}
use Rattle.abi_base.proofs.lemmas.Orders.{bytes_equal, then_equal}
use Rattle.abi_types.specs.Exports.{PlainExport}
use Rattle.abi_types.specs.Names.{name_at}
use Rattle.abi_types.specs.Versions.{version_at, version_cmp, versioned_cmp, IsVersioned, AreVersioned, IsVersionOrder}
use Rattle.abi_types.proofs.KeyLemmas as keys

-- ---- the order

pub copied_cmp : (one other : Option (Bor (List ℕ))) → option_cmp (λ (x y : Bor (List ℕ)). slice_cmp nat_cmp x.now y.now) one other ≡ version_cmp (option_copied one) (option_copied other)
copied_cmp None None = refl
copied_cmp None (Some y) = refl
copied_cmp (Some x) None = refl
copied_cmp (Some x) (Some y) = refl

module _ {K : Type 0} {R : K → K → Ordering} (total : IsTotalOrder R) where
  turned : (p q : Option K) → option_cmp R p q ≡ ordering_reverse (option_cmp R q p)
  turned None None = refl
  turned None (Some y) = refl
  turned (Some x) None = refl
  turned (Some x) (Some y) = total.antisymm x y

  chained : (p q s : Option K) → option_cmp R p q ≡ Less → option_cmp R q s ≡ Less → option_cmp R p s ≡ Less
  chained None q (Some z) e f = refl
  chained None None None e f = cc
  chained None (Some y) None e f = cc
  chained (Some x) None s e f = cc
  chained (Some x) (Some y) None e f = cc
  chained (Some x) (Some y) (Some z) e f = total.trans x y z e f

  tied : (p q s : Option K) → option_cmp R p q ≡ Equal → option_cmp R p s ≡ option_cmp R q s
  tied None None s e = refl
  tied None (Some y) s e = cc
  tied (Some x) None s e = cc
  tied (Some x) (Some y) None e = refl
  tied (Some x) (Some y) (Some z) e = total.congr x y z e

  options_total : IsTotalOrder (option_cmp R)
  options_total = record { antisymm = turned; trans = chained; congr = tied }

-- a name and a version
abbrev pub Key : Type 0
Key = List ℕ × Option (List ℕ)

abbrev pub pair_cmp : Key → Key → Ordering
pair_cmp p q = ordering_then (slice_cmp nat_cmp p.0 q.0) (version_cmp p.1 q.1)

pub pair_total : IsTotalOrder pair_cmp
pair_total = then_total (on_total (λ (p : Key). p.0) nat_list_cmp_total) (on_total (λ (p : Key). p.1) (options_total nat_list_cmp_total))

abbrev pub key_at : List PlainExport → ℕ → Key
key_at exports k = (name_at exports k, version_at exports k)

-- ---- names and versions

version_from_equal : (a b : Option (List ℕ)) → version_cmp a b ≡ Equal → a ≡ b
version_from_equal None None e = refl
version_from_equal None (Some y) e = cc
version_from_equal (Some x) None e = cc
version_from_equal (Some x) (Some y) e = ap Some (bytes_equal x y e)

module _ (exports : List PlainExport) (name : List ℕ) (version : Option (List ℕ)) (k : ℕ) where
  IsVersioned-from : k < length exports → name_at exports k ≡ name → version_at exports k ≡ version → IsVersioned exports name version k
  IsVersioned-from inside is has = elim (slice_get_cases exports k).1 [
    | inl found ↦ let at : slice_get exports k ≡ Some found.0 = found.2 in
        let named : name_at exports k ≡ found.0.name = rw at refl in
        let versioned : version_at exports k ≡ found.0.version = rw at refl in
        record { exported = found.0; at = at; named = sym named ∙ is; versioned = sym versioned ∙ has }
    | inr past ↦ let over = past.0 in absurd (omega arith)
  ]

  key_of : IsVersioned exports name version k → key_at exports k ≡ (name, version)
  key_of is =
      let at = is.at in
      let named : name_at exports k ≡ is.exported.name = rw at refl in
      let versioned : version_at exports k ≡ is.exported.version = rw at refl in
      rw (named, versioned, is.named, is.versioned) refl

-- ---- a search

module _ (exports : List PlainExport) (places : List ℕ) (name : List ℕ) (version : Option (List ℕ)) (order : IsVersionOrder places exports) (start end : ℕ)
    (starts : IsPartitionPoint (λ (k : ℕ). is_lt (versioned_cmp exports name version k) ≡ true) (λ (k : ℕ). is_lt (versioned_cmp exports name version k) ≡ false) places start)
    (ends : IsPartitionPoint (λ (k : ℕ). is_le (versioned_cmp exports name version k) ≡ true) (λ (k : ℕ). is_le (versioned_cmp exports name version k) ≡ false) places end)
    (past : end ≤ length places) (from : start ≤ length places) where
  pub start_le : start ≤ end
  start_le = keys.start_le pair_cmp pair_total (key_at exports) (length exports) places order.all order.rises (name, version) start end starts ends past from

  abbrev pub slice : List ℕ
  slice = take (end - start) (drop start places)

  pub AreVersioned-slice : AreVersioned exports name version slice
  AreVersioned-slice = record {
    ascend = keys.ascends pair_cmp pair_total (key_at exports) (length exports) places order.all order.rises (name, version) start end starts ends past from;
    exact = λ k. (
      λ has.
          let tied = keys.listed_tied pair_cmp pair_total (key_at exports) (length exports) places order.all order.rises (name, version) start end starts ends past from k has in
          let same = then_equal (slice_cmp nat_cmp (name_at exports k) name) (version_cmp (version_at exports k) version) tied in
          IsVersioned-from exports name version k
          (keys.listed_below pair_cmp pair_total (key_at exports) (length exports) places order.all order.rises (name, version) start end starts ends past from k has)
          (bytes_equal (name_at exports k) name same.0)
          (version_from_equal (version_at exports k) version same.1),
      λ is.
          keys.there pair_cmp pair_total (key_at exports) (length exports) places order.all order.rises (name, version) start end starts ends past from k
          (slice_get_within exports k is.exported is.at)
          (ap (λ (p : Key). pair_cmp p (name, version)) (key_of exports name version k is) ∙ tied_itself pair_total (name, version)),
    );
  }
