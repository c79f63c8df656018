-- The exports of a library by name.
use Rattle.std.specs.Prelude.{◌≡◌, ◌<◌, ◌↔◌, ℕ, List, [], length, Some, slice_get, Contains, IsPermutation, IsSorted}
use Rattle.std.specs.List.{range_with_len}
use Rattle.std.specs.Option.{option_map_or}
use Rattle.std.specs.Ordering.{nat_cmp, ordering_then}
use Rattle.std.specs.Cmp.Lexicographic.{slice_cmp}
use Rattle.std.specs.declared.cmp.Ordering.{Ordering}
use Rattle.abi_types.specs.Exports.{PlainExport}

-- the export at the position has this name
pub record IsNamed (exports : List PlainExport) (name : List ℕ) (place : ℕ) : Type 0 where
  pub exported : PlainExport
  pub at : slice_get exports place ≡ Some exported
  pub named : exported.name ≡ name

-- the positions of all exports with this name, in ascending order
pub record AreNamed (exports : List PlainExport) (name : List ℕ) (places : List ℕ) : Type 0 where
  pub ascend : (i j k l : ℕ) → i < j → slice_get places i ≡ Some k → slice_get places j ≡ Some l → k < l
  pub exact : (k : ℕ) → Contains places k ↔ IsNamed exports name k

-- ---- the order of a library's exports by name

abbrev pub name_at : List PlainExport → ℕ → List ℕ
name_at exports k = option_map_or (λ (e : PlainExport). e.name) (slice_get exports k) []

-- the order of the name of the export at a position relative to a name
abbrev pub named_cmp : List PlainExport → List ℕ → ℕ → Ordering
named_cmp exports name k = slice_cmp nat_cmp (name_at exports k) name

-- by name, and exports of one name by position
abbrev pub place_cmp : List PlainExport → ℕ → ℕ → Ordering
place_cmp exports a b = ordering_then (slice_cmp nat_cmp (name_at exports a) (name_at exports b)) (nat_cmp a b)

-- the positions of all exports, ordered by name
pub record IsNameOrder (places : List ℕ) (exports : List PlainExport) : Type 0 where
  pub all : IsPermutation (range_with_len 0 (length exports)) places
  pub rises : IsSorted (place_cmp exports) places
