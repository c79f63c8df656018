-- The members of a structure as sets of bits, and their order.
use Rattle.std.specs.Prelude.{◌≡◌, ◌<◌, ◌≤◌, ◌+◌, ◌*◌, ℕ, min, nat_lt, List, length, slice_index_or, Contains}
use Rattle.std.specs.List.{AllPairs}
use Rattle.std.specs.Ordering.{nat_cmp, bool_cmp, ordering_then}
use Rattle.std.specs.declared.cmp.Ordering.{Ordering}
use Rattle.type_print.specs.declared.extent.Extent.{Extent}
use Rattle.type_print.specs.declared.row.LayoutRow.{LayoutRow}
use Rattle.type_print.specs.declared.row.LayoutRow.TheVariants.{Member}

-- the bit after the last one of a member
abbrev pub end_of : Extent → ℕ
end_of member = member.bit + member.width

-- ---- bits

-- the bit is in the member
pub record Holds (member : Extent) (x : ℕ) : Type 0 where
  pub from : member.bit ≤ x
  pub below : x < member.bit + member.width

-- the bit is in some member
pub record IsHeld (members : List Extent) (x : ℕ) : Type 0 where
  pub member : Extent
  pub there : Contains members member
  pub holds : Holds member x

-- some bit is in both members
pub record Meet (a b : Extent) : Type 0 where
  pub bit : ℕ
  pub first : Holds a bit
  pub second : Holds b bit

-- ---- order

-- The sort key of a row: first the section, then the bit, then the rank, then the index.
pub record Key : Type 0 where
  pub section : ℕ
  pub bit : ℕ
  pub rank : ℕ
  pub part : ℕ

pub record IsBelow (a b : Key) : Type 0 where
  pub sections : a.section ≤ b.section
  pub bits : a.section ≡ b.section → a.bit ≤ b.bit
  pub ranks : a.section ≡ b.section → a.bit ≡ b.bit → a.rank ≤ b.rank
  pub parts : a.section ≡ b.section → a.bit ≡ b.bit → a.rank ≡ b.rank → a.part < b.part

-- the rank of a width: at one bit, members of width 0 come first with rank 0, others have rank 2
abbrev pub rank_of : ℕ → ℕ
rank_of width = 2 * min 1 width

abbrev pub member_key : ℕ → Extent → Key
member_key section member = record { section = section; bit = member.bit; rank = rank_of member.width; part = member.part }

-- one member precedes another: at an earlier bit, at the same bit with width 0, or else with a smaller index
abbrev pub Precedes : Extent → Extent → Type 0
Precedes a b = IsBelow (member_key 0 a) (member_key 0 b)

abbrev pub AreInOrder : List Extent → Type 0
AreInOrder members = AllPairs Precedes members

-- the order of sorting
abbrev pub extent_cmp : Extent → Extent → Ordering
extent_cmp a b = ordering_then (ordering_then (nat_cmp a.bit b.bit) (bool_cmp (nat_lt 0 a.width) (nat_lt 0 b.width))) (nat_cmp a.part b.part)

-- ---- indexes

abbrev pub no_member : Extent
no_member = record { part = 0; bit = 0; width = 0 }

abbrev pub member_at : List Extent → ℕ → Extent
member_at members k = slice_index_or members k no_member

-- each member has its own index as `part`
abbrev pub AreNumbered : List Extent → Type 0
AreNumbered members = (k : ℕ) → k < length members → (member_at members k).part ≡ k

-- the indexes of the members refer to them in the list of all
abbrev pub NamesAll : List Extent → List Extent → Type 0
NamesAll all members = (member : Extent) → Contains members member → member_at all member.part ≡ member

-- the indexes of the members refer to them in some list
abbrev pub AreNamed : List Extent → Type 0
AreNamed members = (all : List Extent) × NamesAll all members

-- the row of a member
abbrev pub row_of : Extent → LayoutRow
row_of member = Member member.part member.bit member.width
