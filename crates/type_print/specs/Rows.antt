-- The rows of a layout as sets of bits, and their order.
use Rattle.std.specs.Prelude.{◌≡◌, ◌<◌, ◌≤◌, ◌+◌, ℕ, Bool, true, false, List, Contains}
use Rattle.std.specs.List.{AllPairs}
use Rattle.type_print.specs.declared.extent.Extent.{Extent}
use Rattle.type_print.specs.declared.row.LayoutRow.{LayoutRow}
use Rattle.type_print.specs.declared.row.LayoutRow.TheVariants.{Member, Hole, Padding, Overlap, Outside}
use Rattle.type_print.specs.Members.{Holds, IsHeld, Meet, Key, IsBelow, rank_of, member_key, member_at, Precedes}

-- no member shares a bit with an earlier one, and none ends past the size
pub record Fits (members : List Extent) (bits : ℕ) : Type 0 where
  pub apart : (a b : Extent) → Contains members a → Contains members b → Precedes a b → Meet a b → ⊥
  pub inside : (a : Extent) → Contains members a → a.bit + a.width ≤ bits

-- a hole: a maximal run of bits that no member has, before a bit that one has
pub record IsHole (members : List Extent) (bit width : ℕ) : Type 0 where
  pub some : 0 < width
  pub free : (x : ℕ) → bit ≤ x → x < bit + width → IsHeld members x → ⊥
  pub left : (x : ℕ) → x + 1 ≡ bit → IsHeld members x
  pub right : IsHeld members (bit + width)

-- padding: the run of bits after the last one that a member has, up to the size
pub record IsPadding (members : List Extent) (bits bit width : ℕ) : Type 0 where
  pub some : 0 < width
  pub ends : bit + width ≡ bits
  pub free : (x : ℕ) → bit ≤ x → IsHeld members x → ⊥
  pub left : (x : ℕ) → x + 1 ≡ bit → IsHeld members x

-- the member with index `part` shares bits with an earlier one: `with` is the index of the first such member, and `bit` the first
-- shared bit
pub record IsOverlap (members : List Extent) (part with bit : ℕ) : Type 0 where
  pub member : Extent
  pub there : Contains members member
  pub is : part ≡ member.part
  pub other : Extent
  pub other_there : Contains members other
  pub other_is : with ≡ other.part
  pub earlier : Precedes other member
  pub holds : Holds member bit
  pub other_holds : Holds other bit
  pub first_bit : (x : ℕ) → Holds member x → Holds other x → bit ≤ x
  pub first : (third : Extent) → Contains members third → Precedes third other → Meet third member → ⊥

-- the member with this index ends past the size
pub record IsOutside (members : List Extent) (bits part : ℕ) : Type 0 where
  pub member : Extent
  pub there : Contains members member
  pub is : part ≡ member.part
  pub past : bits < member.bit + member.width

abbrev pub IsOverlapRow : List Extent → LayoutRow → Type 0
IsOverlapRow members (Overlap part with bit) = IsOverlap members part with bit
IsOverlapRow members other = ⊥

abbrev pub IsOutsideRow : List Extent → ℕ → LayoutRow → Type 0
IsOutsideRow members bits (Outside part) = IsOutside members bits part
IsOutsideRow members bits other = ⊥

-- the rows of members that fit without overlaps
abbrev pub IsFittingRow : List Extent → ℕ → LayoutRow → Type 0
IsFittingRow members bits (Member part bit width) = Contains members (record { part = part; bit = bit; width = width })
IsFittingRow members bits (Hole bit width) = IsHole members bit width
IsFittingRow members bits (Padding bit width) = IsPadding members bits bit width
IsFittingRow members bits other = ⊥

-- the row belongs to the layout: each member has one, and holes and padding have one if the members fit
abbrev pub IsRow : List Extent → ℕ → LayoutRow → Type 0
IsRow members bits (Member part bit width) = Contains members (record { part = part; bit = bit; width = width })
IsRow members bits (Hole bit width) = Fits members bits × IsHole members bit width
IsRow members bits (Padding bit width) = Fits members bits × IsPadding members bits bit width
IsRow members bits (Overlap part with bit) = IsOverlap members part with bit
IsRow members bits (Outside part) = IsOutside members bits part

-- The key of a row: members, holes and padding by their first bits, with members of width 0 before a hole or padding at the same
-- bit; then the overlaps, then the members that end outside, each in the order of the members.
abbrev pub key_of : List Extent → LayoutRow → Key
key_of members (Member part bit width) = record { section = 0; bit = bit; rank = rank_of width; part = part }
key_of members (Hole bit width) = record { section = 0; bit = bit; rank = 1; part = 0 }
key_of members (Padding bit width) = record { section = 0; bit = bit; rank = 1; part = 0 }
key_of members (Overlap part with bit) = member_key 1 (member_at members part)
key_of members (Outside part) = member_key 2 (member_at members part)

-- the rows are exactly those with the property, each once, ordered by key
pub record AreExactly (Is : LayoutRow → Type 0) (key : LayoutRow → Key) (rows : List LayoutRow) : Type 0 where
  pub each : (row : LayoutRow) → Contains rows row → Is row
  pub all : (row : LayoutRow) → Is row → Contains rows row
  pub rise : AllPairs (λ (a b : LayoutRow). IsBelow (key a) (key b)) rows

-- the layout of members, each of which has its own index as `part`, in a structure of this many bits
abbrev pub AreRows : List Extent → ℕ → List LayoutRow → Type 0
AreRows members bits rows = AreExactly (IsRow members bits) (key_of members) rows

-- the row is an overlap or a member that ends outside
abbrev pub is_clash : LayoutRow → Bool
is_clash (Overlap part with bit) = true
is_clash (Outside part) = true
is_clash other = false
