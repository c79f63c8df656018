-- The layout of unit headers in the 32-bit format: sizes, and offsets from the start of a header (DWARF 5, section 7.5.1 "Unit
-- Headers"; DWARF 4, section 7.5.1.1 "Compilation Unit Header").
use Rattle.std.specs.Prelude.{ℕ}

-- the supported versions of DWARF
abbrev pub dwarf_4 : ℕ
dwarf_4 = 4

abbrev pub dwarf_5 : ℕ
dwarf_5 = 5

-- the size of the unit length field, which the length does not count
abbrev pub length_size : ℕ
length_size = 4

-- the escape value of the length that marks the 64-bit format
abbrev pub dwarf64_length : ℕ
dwarf64_length = 0xffffffff

-- the least reserved length
abbrev pub reserved_length : ℕ
reserved_length = 0xfffffff0

-- the sizes of unit headers: of version 4, of a type unit of version 5, and of any other unit of version 5
abbrev pub header_size_4 : ℕ
header_size_4 = 11

abbrev pub type_header_size : ℕ
type_header_size = 24

abbrev pub header_size : ℕ
header_size = 12

-- the offset of the version in a unit header
abbrev pub version_at : ℕ
version_at = 4

-- the offsets of the abbreviation offset and of the address size in a header of version 4
abbrev pub debug_abbrev_offset_4_at : ℕ
debug_abbrev_offset_4_at = 6

abbrev pub address_size_4_at : ℕ
address_size_4_at = 10

-- the offsets of the unit type, the address size and the abbreviation offset in a header of version 5
abbrev pub unit_type_at : ℕ
unit_type_at = 6

abbrev pub address_size_at : ℕ
address_size_at = 7

abbrev pub debug_abbrev_offset_at : ℕ
debug_abbrev_offset_at = 8

-- the offsets of the signature and of the type offset in the header of a type unit
abbrev pub type_signature_at : ℕ
type_signature_at = 12

abbrev pub type_offset_at : ℕ
type_offset_at = 20

-- the address size of x86-64
abbrev pub x86_64_address_size : ℕ
x86_64_address_size = 8
