-- The first fields of a line program header (DWARF 5, section 6.2.4 "The Line Number Program Header"; DWARF 4, the same
-- section), in the 32-bit format.
use Rattle.std.specs.Prelude.{ℕ, ◌+◌, ◌==◌, ◌&&◌, nat_lt, nat_le, if◌then◌else◌, List, length, Option, Some, None, slice_get}
use Rattle.abi_base.specs.Numbers.{number_at}
use Rattle.dwarf_files.specs.declared.heads.Head.{Head}
use Rattle.dwarf_files.specs.Steps.{◌>>=◌}

-- Where the unit ends: `unit_length` is four bytes, below 0xfffffff0, and counts the bytes after it, which are inside the section.
abbrev pub unit_end_of : List ℕ → ℕ → Option ℕ
unit_end_of line at = do
  size ← number_at 4 line at
  if nat_lt size 0xffff_fff0 && nat_le (at + 4 + size) (length line) then Some (at + 4 + size) else None

-- The offset of `header_length`: after `unit_length` and `version`, and in version 5 also after `address_size` and
-- `segment_selector_size`, one byte each. Other versions are not supported.
abbrev pub length_place_of : ℕ → ℕ → Option ℕ
length_place_of version at = if version == 4 then Some (at + 6) else (if version == 5 then Some (at + 8) else None)

-- The offset of the tables and the end of the header, from the offset of `header_length`. The header ends `header_length` bytes
-- after that four-byte field. `opcode_base` is the sixth byte after the field, and is followed by `standard_opcode_lengths`,
-- `opcode_base` - 1 bytes, and the tables. All of these are in the header, and the header is in the unit.
abbrev pub lengths_of : List ℕ → ℕ → ℕ → Option (ℕ × ℕ)
lengths_of line place unit_end = do
  size ← number_at 4 line place
  opcode_base ← slice_get line (place + 9)
  if nat_lt 0 opcode_base && (nat_le (place + 9 + opcode_base) (place + 4 + size) && nat_le (place + 4 + size) unit_end)
      then Some (place + 9 + opcode_base, place + 4 + size)
      else None

-- the first fields of the header at an offset in `.debug_line`
unfoldable pub head_of : List ℕ → ℕ → Option Head
head_of line at = do
  unit_end ← unit_end_of line at
  version ← number_at 2 line (at + 4)
  place ← length_place_of version at
  lengths ← lengths_of line place unit_end
  Some (record { version = version; tables = lengths.0; end = lengths.1 })
