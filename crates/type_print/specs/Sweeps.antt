-- The invariants of the sweeps over ordered members, from some index on.
use Rattle.std.specs.Prelude.{◌≡◌, ◌<◌, ◌≤◌, ◌+◌, ◌-◌, ◌==◌, nat_lt, ℕ, if◌then◌else◌, ◌||◌, List, [], ◌∷◌, ◌++◌, Option, Some, None, unwrap_or, Contains}
use Rattle.std.specs.List.{AllPairs}
use Rattle.type_print.specs.declared.extent.Extent.{Extent}
use Rattle.type_print.specs.declared.row.LayoutRow.{LayoutRow}
use Rattle.type_print.specs.declared.row.LayoutRow.TheVariants.{Member, Hole, Padding, Overlap, Outside}
use Rattle.type_print.specs.Members.{end_of, member_at, IsHeld, Precedes}
use Rattle.type_print.specs.Rows.{AreExactly, IsFittingRow, key_of}

-- the overlap row, if any, of member k, where `first` is the first member that ends past the first bit of k
abbrev pub overlap_rows : List Extent → ℕ → ℕ → List LayoutRow
overlap_rows members k first =
    if first == k || ((member_at members k).width == 0) then [] else Overlap (member_at members k).part (member_at members first).part (member_at members k).bit ∷ []

abbrev pub outside_rows : ℕ → Extent → List LayoutRow
outside_rows bits member = if nat_lt bits (end_of member) then Outside member.part ∷ [] else []

-- ---- gaps

-- the first bit of the first member with a width above 0
abbrev pub next_bit : List Extent → Option ℕ
next_bit [] = None
next_bit (member ∷ members) = if nat_lt 0 member.width then Some member.bit else next_bit members

-- where the free bits end
abbrev pub gap_end : Option ℕ → ℕ → ℕ
gap_end next bits = unwrap_or next bits

abbrev pub gap_row : ℕ → Option ℕ → ℕ → LayoutRow
gap_row held None bits = Padding held (bits - held)
gap_row held (Some bit) bits = Hole held (bit - held)

abbrev pub padding_rows : ℕ → ℕ → List LayoutRow
padding_rows held bits = if nat_lt held bits then gap_row held None bits ∷ [] else []

-- ---- the sweep over members that fit without overlaps

-- the second member comes after the first, and after all its bits if it has some itself
pub record Follows (a b : Extent) : Type 0 where
  pub order : Precedes a b
  pub clear : 0 < a.width → 0 < b.width → a.bit + a.width ≤ b.bit

-- the remaining members fit after the bit
pub record FitsFrom (held : ℕ) (left : List Extent) (bits : ℕ) : Type 0 where
  pub low : held ≤ bits
  pub follow : AllPairs Follows left
  pub inside : (a : Extent) → Contains left a → a.bit + a.width ≤ bits
  pub above : (a : Extent) → Contains left a → 0 < a.width → held ≤ a.bit

-- a hole among the bits from `low` on
pub record IsHoleFrom (low : ℕ) (members : List Extent) (bit width : ℕ) : Type 0 where
  pub above : low ≤ bit
  pub some : 0 < width
  pub free : (x : ℕ) → bit ≤ x → x < bit + width → IsHeld members x → ⊥
  pub left : (x : ℕ) → low ≤ x → x + 1 ≡ bit → IsHeld members x
  pub right : IsHeld members (bit + width)

-- padding among the bits from `low` on
pub record IsPaddingFrom (low : ℕ) (members : List Extent) (bits bit width : ℕ) : Type 0 where
  pub above : low ≤ bit
  pub some : 0 < width
  pub ends : bit + width ≡ bits
  pub free : (x : ℕ) → bit ≤ x → IsHeld members x → ⊥
  pub left : (x : ℕ) → low ≤ x → x + 1 ≡ bit → IsHeld members x

-- a row of the remaining members, from the bit on
abbrev pub IsRowFrom : ℕ → List Extent → ℕ → LayoutRow → Type 0
IsRowFrom held left bits (Member part bit width) = Contains left (record { part = part; bit = bit; width = width })
IsRowFrom held left bits (Hole bit width) = IsHoleFrom held left bit width
IsRowFrom held left bits (Padding bit width) = IsPaddingFrom held left bits bit width
IsRowFrom held left bits other = ⊥

abbrev pub AreRowsFrom : List Extent → ℕ → List Extent → ℕ → List LayoutRow → Type 0
AreRowsFrom all held left bits rows = AreExactly (IsRowFrom held left bits) (key_of all) rows

-- the rows so far, with those of the remaining members from the bit on, are those of the whole
pub record IsSwept (all whole : List Extent) (bits : ℕ) (rows : List LayoutRow) (held : ℕ) (left : List Extent) : Type 0 where
  pub fits : FitsFrom held left bits
  pub leads : (tail : List LayoutRow) → AreRowsFrom all held left bits tail → AreExactly (IsFittingRow whole bits) (key_of all) (rows ++ tail)
