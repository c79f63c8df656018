-- The leaves in each eightbyte of an object (psABI, section 3.2.3 "Parameter Passing", "Classification").
use Rattle.std.specs.Prelude.{ℕ, ◌==◌, ◌||◌, ◌&&◌, ◌+◌, ◌-◌, ◌*◌, ◌/◌, ◌%◌, nat_lt, not, max, Bool, if◌then◌else◌, slice_index_or}
use Rattle.abi_types.specs.declared.leaf.Leaf.{Leaf}
use Rattle.psabi.specs.declared.class.Class.{Class}
use Rattle.psabi.specs.declared.class.Class.TheVariants.{NoClass, Integer}
use Rattle.psabi.specs.Alignment.{natural_align}
use Rattle.psabi.specs.Psabi.{byte_bits, eightbyte_bits, eightbyte_size}
use Rattle.psabi.specs.Rows.{row}

-- the size of a leaf in bits
abbrev pub bits_of : Leaf → ℕ
bits_of l = if l.width == 0 then byte_bits * l.size else l.width

-- the leaf has a bit in eightbyte k, which is bits 64 k to 64 k + 63
unfoldable pub touches : Leaf → ℕ → Bool
touches l k = nat_lt l.bit (eightbyte_bits * k + eightbyte_bits) && nat_lt (eightbyte_bits * k) (l.bit + bits_of l)

-- the first byte of the leaf, and its first one in eightbyte k
abbrev pub first_byte : Leaf → ℕ
first_byte l = l.bit / byte_bits

abbrev pub first_byte_in : Leaf → ℕ → ℕ
first_byte_in l k = max (first_byte l) (eightbyte_size * k)

-- The class of the leaf in an eightbyte where it has a bit. A bit field is INTEGER. For any other leaf, take its first byte in that
-- eightbyte: the class is that of the leaf's own eightbyte with this byte.
unfoldable pub class_in : Leaf → ℕ → Class
class_in l k = if l.width == 0 then slice_index_or (row l.kind l.group l.size) ((first_byte_in l k - first_byte l) / eightbyte_size) NoClass else Integer

-- the leaf is a bit field, or its offset is a multiple of its natural alignment
unfoldable pub is_aligned : Leaf → Bool
is_aligned l = not (l.width == 0) || l.bit % (byte_bits * natural_align l.kind l.group l.size) == 0
