-- The exports of a library by name and version.
use Rattle.std.specs.Prelude.{◌≡◌, ◌<◌, ◌↔◌, ℕ, List, length, Option, Some, slice_get, Contains, IsPermutation, IsSorted}
use Rattle.std.specs.List.{range_with_len}
use Rattle.std.specs.Option.{option_and_then, option_cmp}
use Rattle.std.specs.Ordering.{nat_cmp, ordering_then}
use Rattle.std.specs.Cmp.Lexicographic.{slice_cmp}
use Rattle.std.specs.declared.cmp.Ordering.{Ordering}
use Rattle.abi_types.specs.Exports.{PlainExport}
use Rattle.abi_types.specs.Names.{name_at, named_cmp}

-- the export at the position has this name and this version, or this name and no version
pub record IsVersioned (exports : List PlainExport) (name : List ℕ) (version : Option (List ℕ)) (place : ℕ) : Type 0 where
  pub exported : PlainExport
  pub at : slice_get exports place ≡ Some exported
  pub named : exported.name ≡ name
  pub versioned : exported.version ≡ version

-- the positions of all exports with this name and this version, in ascending order
pub record AreVersioned (exports : List PlainExport) (name : List ℕ) (version : Option (List ℕ)) (places : List ℕ) : Type 0 where
  pub ascend : (i j k l : ℕ) → i < j → slice_get places i ≡ Some k → slice_get places j ≡ Some l → k < l
  pub exact : (k : ℕ) → Contains places k ↔ IsVersioned exports name version k

-- ---- the order of a library's exports by name and version

abbrev pub version_at : List PlainExport → ℕ → Option (List ℕ)
version_at exports k = option_and_then (λ (e : PlainExport). e.version) (slice_get exports k)

-- the order of two versions: no version comes first
abbrev pub version_cmp : Option (List ℕ) → Option (List ℕ) → Ordering
version_cmp a b = option_cmp (slice_cmp nat_cmp) a b

-- the order of the name and the version of the export at a position relative to a name and a version
abbrev pub versioned_cmp : List PlainExport → List ℕ → Option (List ℕ) → ℕ → Ordering
versioned_cmp exports name version k = ordering_then (named_cmp exports name k) (version_cmp (version_at exports k) version)

-- by name and version, and exports of one name and one version by position
abbrev pub versioned_place_cmp : List PlainExport → ℕ → ℕ → Ordering
versioned_place_cmp exports a b = ordering_then (versioned_cmp exports (name_at exports b) (version_at exports b) a) (nat_cmp a b)

-- the positions of all exports, ordered by name and version
pub record IsVersionOrder (places : List ℕ) (exports : List PlainExport) : Type 0 where
  pub all : IsPermutation (range_with_len 0 (length exports)) places
  pub rises : IsSorted (versioned_place_cmp exports) places
