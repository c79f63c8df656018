-- The constants of version requirements that definitions use (Linux Standard Base, "Symbol Versioning"). Names are the
-- standard's own, in lower case.
use Rattle.std.specs.Prelude.{ℕ}

-- the size of a version need, `Elf64_Verneed`
abbrev pub verneed_size : ℕ
verneed_size = 16

-- the offset, in a need, of the version of its format
abbrev pub vn_version : ℕ
vn_version = 0

-- the offset, in a need, of the number of its auxiliary entries
abbrev pub vn_cnt : ℕ
vn_cnt = 2

-- the offset, in a need, of the offset of its file's name in the string table
abbrev pub vn_file : ℕ
vn_file = 4

-- the offset, in a need, of the offset of its first auxiliary entry, counted from the need
abbrev pub vn_aux : ℕ
vn_aux = 8

-- the offset, in a need, of the offset of the next need, counted from this one
abbrev pub vn_next : ℕ
vn_next = 12

-- the only version of the format of needs
abbrev pub ver_need_current : ℕ
ver_need_current = 1

-- the size of an auxiliary entry, `Elf64_Vernaux`
abbrev pub vernaux_size : ℕ
vernaux_size = 16

-- the offset, in an auxiliary entry, of its version index, in the 15 low bits
abbrev pub vna_other : ℕ
vna_other = 6

-- the offset, in an auxiliary entry, of the offset of its version's name in the string table
abbrev pub vna_name : ℕ
vna_name = 8

-- the offset, in an auxiliary entry, of the offset of the next one, counted from this one
abbrev pub vna_next : ℕ
vna_next = 12
