-- The limits of graphs and libraries. They keep sums and products of the values within 64 bits.
use Rattle.std.specs.Prelude.{◌^◌, ℕ}

-- the greatest size of a type in bytes, and the greatest number of elements of an array or a vector
abbrev pub size_limit : ℕ
size_limit = 2 ^ 60

-- the offset and the width of a member in bits are below this
abbrev pub bit_limit : ℕ
bit_limit = 2 ^ 63

-- the greatest explicit alignment, in bytes
abbrev pub align_limit : ℕ
align_limit = 2 ^ 32

-- the stack space that the alignment of a parameter may take, beside its size: twice the greatest alignment
abbrev pub align_room : ℕ
align_room = 2 ^ 33

-- the greatest stack space of all parameters of a function, in bytes
abbrev pub room_limit : ℕ
room_limit = 2 ^ 62

-- symbol numbers are below this
unfoldable pub symbol_limit : ℕ
symbol_limit = 2 ^ 32
