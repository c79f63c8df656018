-- Properties of the rows of a layout: where each bit is, and which members overlap or end outside.
use Rattle.std.specs.Prelude.{◌≡◌, ◌<◌, ◌≤◌, ◌+◌, ℕ, false, List, length, slice_index_or, Contains}
use Rattle.type_print.specs.declared.extent.Extent.{Extent}
use Rattle.type_print.specs.declared.row.LayoutRow.{LayoutRow}
use Rattle.type_print.specs.declared.row.LayoutRow.TheVariants.{Member, Hole, Padding, Overlap, Outside}
use Rattle.type_print.specs.Members.{end_of, Meet, Precedes, AreNumbered}
use Rattle.type_print.specs.Rows.{AreRows, is_clash}

-- the bit is one of `width` bits from `bit` on
pub record Lies (bit width x : ℕ) : Type 0 where
  pub from : bit ≤ x
  pub below : x < bit + width

-- the bit is in the member, the hole or the padding of the row
abbrev pub RowHolds : LayoutRow → ℕ → Type 0
RowHolds (Member part bit width) x = Lies bit width x
RowHolds (Hole bit width) x = Lies bit width x
RowHolds (Padding bit width) x = Lies bit width x
RowHolds other x = ⊥

-- the bit after the last one of the row
abbrev pub row_end : LayoutRow → ℕ
row_end (Member part bit width) = bit + width
row_end (Hole bit width) = bit + width
row_end (Padding bit width) = bit + width
row_end other = 0

abbrev pub row_at : List LayoutRow → ℕ → LayoutRow
row_at rows k = slice_index_or rows k (Outside 0)

-- the bit is in exactly one row
pub record StandsOnce (rows : List LayoutRow) (x : ℕ) : Type 0 where
  pub place : ℕ
  pub inside : place < length rows
  pub holds : RowHolds (row_at rows place) x
  pub alone : (k : ℕ) → k < length rows → RowHolds (row_at rows k) x → k ≡ place

-- no row is an overlap or a member that ends outside
abbrev pub IsClean : List LayoutRow → Type 0
IsClean rows = (row : LayoutRow) → Contains rows row → is_clash row ≡ false

-- each bit below the size is in exactly one row, and no row reaches past the size
pub record CoverEachBitOnce (bits : ℕ) (rows : List LayoutRow) : Type 0 where
  pub once : (x : ℕ) → x < bits → StandsOnce rows x
  pub inside : (row : LayoutRow) → Contains rows row → row_end row ≤ bits

abbrev pub CleanRowsCoverEachBitOnce : Type 0
CleanRowsCoverEachBitOnce = (members : List Extent) (bits : ℕ) (rows : List LayoutRow) → AreNumbered members → AreRows members bits rows → IsClean rows → CoverEachBitOnce bits rows

-- the rows have an overlap for each member that shares bits with an earlier one, and a row for each member that ends past the size
pub record NameClashes (members : List Extent) (bits : ℕ) (rows : List LayoutRow) : Type 0 where
  pub overlap : (a b : Extent) → Contains members a → Contains members b → Precedes a b → Meet a b → (with : ℕ) × (bit : ℕ) × Contains rows (Overlap b.part with bit)
  pub outside : (a : Extent) → Contains members a → bits < end_of a → Contains rows (Outside a.part)

abbrev pub RowsNameClashes : Type 0
RowsNameClashes = (members : List Extent) (bits : ℕ) (rows : List LayoutRow) → AreRows members bits rows → NameClashes members bits rows

-- two lists of rows for the same members are equal
abbrev pub RowsAreDetermined : Type 0
RowsAreDetermined = (members : List Extent) (bits : ℕ) (first second : List LayoutRow) → AreRows members bits first → AreRows members bits second → first ≡ second
