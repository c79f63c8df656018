-- The positions of members, as printed texts. A bit field is shown by its first bit, counted from the beginning of its aggregate,
-- so that both of its encodings have one text: `DW_AT_data_bit_offset` (DWARF 5, section 5.7.6 "Data Member Entries") counts from
-- there, and `DW_AT_bit_offset` (DWARF 4, section 5.5.6) from the most significant bit of the storage unit.
use Rattle.std.specs.Prelude.{ℕ, ℤ, ◌+◌, ◌==◌, ◌||◌, Bool, if◌then◌else◌, List, [], ◌++◌, Some, None, codes, decimal}
use Rattle.std.specs.Fmt.{signed_decimal}
use Rattle.abi_base.specs.Dwarf.{dw_at_byte_size, dw_at_bit_offset, dw_at_bit_size, dw_at_data_bit_offset}
use Rattle.abi_base.specs.Limits.{depth_limit}
use Rattle.dwarf_tree.specs.Trees.{PlainTree}
use Rattle.dwarf_entries.specs.Debug.{PlainDwarf}
use Rattle.type_reach.specs.Placement.{bit_of, byte_of, width_of}
use Rattle.type_reach.specs.References.{Type_, type_of}
use Rattle.type_reach.specs.Values.{is_there, number_at}
use Rattle.type_notes.specs.Chains.{behind}

-- the size of an entry; that of void is 0
abbrev pub size_by : PlainTree → Type_ → ℕ
size_by t None = 0
size_by t (Some e) = number_at t e dw_at_byte_size

-- the size of the type of a member
abbrev pub type_size : PlainTree → ℕ → ℕ
type_size t m = size_by t (behind t (depth_limit + 1) (type_of t m))

-- the bit at which a member begins, from the beginning of its aggregate
abbrev pub first_bit : PlainDwarf → ℕ → ℤ
first_bit d m = bit_of d m (type_size d.tree m)

-- an entry states the bits of its member
abbrev pub has_bits : PlainTree → ℕ → Bool
has_bits t m = is_there t m dw_at_bit_size || (is_there t m dw_at_data_bit_offset || is_there t m dw_at_bit_offset)

abbrev pub byte_words : ℕ → List ℕ
byte_words byte = codes " at byte " ++ decimal byte

abbrev pub bit_words : ℤ → List ℕ
bit_words bit = codes " at bit " ++ signed_decimal bit

abbrev pub begin_text : PlainDwarf → ℕ → List ℕ
begin_text d m = if has_bits d.tree m then bit_words (first_bit d m) else byte_words (byte_of d m)

abbrev pub width_text : ℕ → List ℕ
width_text width = if width == 0 then [] else codes ", width " ++ decimal width

-- the position of a member, and the width of a bit field
unfoldable pub place_text : PlainDwarf → ℕ → List ℕ
place_text d m = begin_text d m ++ width_text (width_of d m)
