-- An index of parts: their positions, ordered by sort, name and number.
use Rattle.std.specs.Prelude.{◌≡◌, ◌<◌, ℕ, List, length, Option, Some, None, unwrap_or, slice_index_or, Contains, IsSorted}
use Rattle.std.specs.Borrow.{Bor}
use Rattle.std.specs.Vec.{vec_len}
use Rattle.std.specs.declared.cmp.Ordering.{Ordering}
use Rattle.std.specs.declared.cmp.Ordering.TheVariants.{Equal}
use Rattle.std.specs.Ordering.{nat_cmp, ordering_then}
use Rattle.std.specs.Cmp.Lexicographic.{slice_cmp}
use Rattle.std.specs.BTreeMap.{BTreeMap, get_by}
use Rattle.abi_types.specs.declared.sort.Sort.{Sort}
use Rattle.abi_types.specs.declared.lookup.Lookup.{Lookup}
use Rattle.abi_types.specs.declared.lookup.NamedPlace.{NamedPlace}
use Rattle.abi_types.specs.Types.{PlainPart}
use Rattle.abi_types.specs.Graphs.{no_part}
use Rattle.abi_types.specs.Parts.{like_before}
use Rattle.abi_types.specs.Sorts.{sort_of, name_of, sort_cmp}

-- by sort, and those of one sort by name
abbrev pub name_cmp : Sort → List ℕ → Sort → List ℕ → Ordering
name_cmp s n t m = ordering_then (sort_cmp s t) (slice_cmp nat_cmp n m)

-- by sort and name, and those with both by number
abbrev pub number_cmp : Sort → List ℕ → ℕ → Sort → List ℕ → ℕ → Ordering
number_cmp s n k t m l = ordering_then (name_cmp s n t m) (nat_cmp k l)

-- a map from sorts and names to numbers
abbrev pub Counts : Type 0
Counts = BTreeMap (Sort × Bor (List ℕ)) ℕ

-- the value under the sort and the name of a part, 0 where there is none
abbrev pub count_under : Counts → PlainPart → ℕ
count_under counts part = unwrap_or (get_by (λ key. name_cmp (sort_of part) (name_of part) key.0 key.1.now) counts) 0

-- a position with the sort and the name of the part there, and a number
pub record IsNamedPlace (part : PlainPart) (k i : ℕ) (at : NamedPlace) : Type 0 where
  pub sort : at.sort ≡ sort_of part
  pub name : at.name.now ≡ name_of part
  pub number : at.number ≡ k
  pub place : at.place ≡ i

-- positions by sort, name and number
abbrev pub IsInOrder : List NamedPlace → Type 0
IsInOrder places = IsSorted (λ (a b : NamedPlace). number_cmp a.sort a.name.now a.number b.sort b.name.now b.number) places

-- a position is under the sort and the name of a part, and a number
abbrev pub IsUnder : PlainPart → ℕ → NamedPlace → Type 0
IsUnder part k at = number_cmp at.sort at.name.now at.number (sort_of part) (name_of part) k ≡ Equal

-- one of the positions under the sort and the name of a part, and a number, or that there is none
abbrev pub IsFound : List NamedPlace → PlainPart → ℕ → Option ℕ → Type 0
IsFound places part k None = (at : NamedPlace) → Contains places at → IsUnder part k at → ⊥
IsFound places part k (Some place) = (at : NamedPlace) × Contains places at × IsUnder part k at × (at.place ≡ place)

-- the part at a position
abbrev pub part_in : List PlainPart → ℕ → PlainPart
part_in parts place = slice_index_or parts place no_part

-- for each part how many before it are like it, and the position of each part in the order of sorts, names and these numbers
pub record IsLookup (lookup : Lookup) (parts : List PlainPart) : Type 0 where
  pub many : vec_len lookup.numbers ≡ length parts
  pub numbers : (i : ℕ) → i < length parts → slice_index_or lookup.numbers.items i 0 ≡ like_before parts (part_in parts i) i
  pub order : IsInOrder lookup.places.items
  pub there : (at : NamedPlace) → Contains lookup.places.items at → (at.place < length parts) × IsNamedPlace (part_in parts at.place) (like_before parts (part_in parts at.place) at.place) at.place at
  pub all : (i : ℕ) → i < length parts → (at : NamedPlace) × Contains lookup.places.items at × (at.place ≡ i)
