-- The offset of a member in its aggregate, in bits from the aggregate's start (DWARF 5, section 5.7.6 "Data Member Entries").
use Rattle.std.specs.Prelude.{ℕ, ℤ, ◌+◌, ◌*◌, nat_le, Bool, true, if◌then◌else◌, is_none, pos, negsuc, neg_ℤ, ◌-ℤ◌, ◌≤ℤ◌, ◌^◌}
use Rattle.std.specs.Option.{unwrap_or}
use Rattle.abi_base.specs.Dwarf.{dw_at_byte_size, dw_at_bit_offset, dw_at_bit_size, dw_at_data_member_location, dw_at_data_bit_offset}
use Rattle.dwarf_entries.specs.Chains.{attribute_along, name_of}
use Rattle.dwarf_entries.specs.Debug.{PlainDwarf}
use Rattle.abi_types.specs.Limits.{bit_limit}
use Rattle.type_reach.specs.Values.{place_of, is_there, number_at}

-- the offset of a member in bytes
unfoldable pub byte_of : PlainDwarf → ℕ → ℕ
byte_of d m = unwrap_or (place_of d.sections.info (attribute_along d.tree m dw_at_data_member_location)) 0

-- the size of a bit field's storage: the member's own size, or else that of its type
unfoldable pub storage_of : PlainDwarf → ℕ → ℕ → ℕ
storage_of d m size = if is_there d.tree m dw_at_byte_size then number_at d.tree m dw_at_byte_size else size

-- the width of a bit field, or 0 where the member is none
unfoldable pub width_of : PlainDwarf → ℕ → ℕ
width_of d m = number_at d.tree m dw_at_bit_size

-- The offset of a member in bits, if its type has a size: data_bit_offset; else from bit_offset, which counts from the most
-- significant bit of the storage (DWARF 4, section 5.5.6, for version 3); else the first bit of its byte. It may be negative.
unfoldable pub bit_of : PlainDwarf → ℕ → ℕ → ℤ
bit_of d m size =
    if is_there d.tree m dw_at_data_bit_offset then pos (number_at d.tree m dw_at_data_bit_offset)
    else (if is_there d.tree m dw_at_bit_offset
    then pos (8 * byte_of d m + 8 * storage_of d m size) -ℤ pos (number_at d.tree m dw_at_bit_offset + width_of d m)
    else pos (8 * byte_of d m))

-- whether a bit offset is not from 0 to 2^63 - 1
abbrev pub is_out_of_range : ℤ → Bool
is_out_of_range (pos bit) = nat_le bit_limit bit
is_out_of_range (negsuc bit) = true

unfoldable pub is_nameless : PlainDwarf → ℕ → Bool
is_nameless d m = is_none (name_of d m)

-- an offset is near 0: at most a bounded number of bits for each type around it
abbrev pub member_reach : ℕ
member_reach = 2 ^ 69

pub record IsNear (n : ℕ) (bit : ℤ) : Type 0 where
  pub below : neg_ℤ (pos (n * member_reach)) ≤ℤ bit
  pub above_ : bit ≤ℤ pos (n * member_reach)
