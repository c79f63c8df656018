-- The text of a layout.
use Rattle.std.specs.Prelude.{◌<◌, ℕ, ◌+◌, ◌==◌, if◌then◌else◌, List, [], ◌∷◌, ◌++◌, length, flat_map, codes, decimal}
use Rattle.std.specs.List.{concat, list_any, All}
use Rattle.abi_types.specs.Types.{PlainView}
use Rattle.abi_types.specs.Graphs.{part_at}
use Rattle.abi_types.specs.Parts.{like_before}
use Rattle.abi_types.specs.Shown.{shown}
use Rattle.abi_types.specs.Sorts.{name_of}
use Rattle.type_print.specs.declared.row.LayoutRow.{LayoutRow}
use Rattle.type_print.specs.declared.row.LayoutRow.TheVariants.{Member, Hole, Padding, Overlap, Outside}
use Rattle.type_print.specs.Rows.{is_clash}

abbrev pub newline : List ℕ
newline = 10 ∷ []

-- the number of a member among those of its name, from the second on
abbrev pub numbered : ℕ → List ℕ
numbered before = if before == 0 then [] else concat (codes "#" ∷ decimal (before + 1) ∷ [])

-- the name of the member with this index, as paths print it
unfoldable pub name_at : PlainView → ℕ → List ℕ
name_at v k = shown (name_of (part_at v k)) ++ numbered (like_before v.parts (part_at v k) k)

-- a range of bits
abbrev pub bits_text : ℕ → ℕ → List ℕ
bits_text bit width = concat (codes " bit " ∷ decimal bit ∷ codes " width " ∷ decimal width ∷ newline ∷ [])

-- the line of a row
unfoldable pub row_line : PlainView → LayoutRow → List ℕ
row_line v (Member part bit width) = concat (codes "member " ∷ name_at v part ∷ bits_text bit width ∷ [])
row_line v (Hole bit width) = codes "hole" ++ bits_text bit width
row_line v (Padding bit width) = codes "padding" ++ bits_text bit width
row_line v (Overlap part with bit) = concat (codes "overlap " ∷ name_at v part ∷ codes " " ∷ name_at v with ∷ codes " bit " ∷ decimal bit ∷ newline ∷ [])
row_line v (Outside part) = concat (codes "outside " ∷ name_at v part ∷ newline ∷ [])

abbrev pub marked : List LayoutRow → List ℕ
marked rows = if list_any is_clash rows then codes " overlaps" else []

-- the first line
unfoldable pub head_line : PlainView → List LayoutRow → List ℕ
head_line v rows = concat (codes "layout " ∷ shown v.tag ∷ codes " size " ∷ decimal v.size ∷ marked rows ∷ newline ∷ [])

-- the first line, and a line for each row
unfoldable pub layout_text : PlainView → List LayoutRow → List ℕ
layout_text v rows = head_line v rows ++ flat_map (row_line v) rows

-- the indexes in the row are those of members
abbrev pub IsInside : PlainView → LayoutRow → Type 0
IsInside v (Member part bit width) = part < length v.parts
IsInside v (Overlap part with bit) = (part < length v.parts) × (with < length v.parts)
IsInside v (Outside part) = part < length v.parts
IsInside v other = Unit {0}

abbrev pub AreInside : PlainView → List LayoutRow → Type 0
AreInside v rows = All (IsInside v) rows
