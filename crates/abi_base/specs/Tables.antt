-- Tables of numbers that are indexed from a base: `.debug_str_offsets`, `.debug_addr`, and the offsets at the head of a
-- range list table.
use Rattle.std.specs.Prelude.{ℕ, ◌+◌, ◌*◌, List, Option, Some, None}
use Rattle.abi_base.specs.Numbers.{number_at}

-- Entry k of the part of a table that begins at a base: the number of `size` bytes at base + size * k (DWARF 5, sections
-- 7.26 "String Offsets Table", 7.27 "Address Table" and 7.28 "Range List Table"). None without a base or out of bounds.
abbrev pub entry_of_table : ℕ → List ℕ → Option ℕ → ℕ → Option ℕ
entry_of_table size table None k = None
entry_of_table size table (Some base) k = number_at size table (base + size * k)
