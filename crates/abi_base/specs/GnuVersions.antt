-- The constants of GNU symbol versioning that definitions use (Linux Standard Base, "Symbol Versioning"). Names are the
-- standard's own, in lower case.
use Rattle.std.specs.Prelude.{ℕ}

-- ---- section types

-- the version definitions
abbrev pub sht_gnu_verdef : ℕ
sht_gnu_verdef = 0x6ffffffd

-- the version requirements
abbrev pub sht_gnu_verneed : ℕ
sht_gnu_verneed = 0x6ffffffe

-- the version indexes of the dynamic symbols
abbrev pub sht_gnu_versym : ℕ
sht_gnu_versym = 0x6fffffff

-- ---- version indexes and version definitions

-- the size of a symbol's version index, `Elf64_Versym`
abbrev pub versym_size : ℕ
versym_size = 2

-- the bit of a version index that marks a hidden version, one that is not the default of its symbol
abbrev pub versym_hidden : ℕ
versym_hidden = 0x8000

-- the index of symbols that are visible only in their own file
abbrev pub ver_ndx_local : ℕ
ver_ndx_local = 0

-- the index of global symbols without a version
abbrev pub ver_ndx_global : ℕ
ver_ndx_global = 1

-- the size of a version definition, `Elf64_Verdef`
abbrev pub verdef_size : ℕ
verdef_size = 20

-- the offset, in a definition, of the version of its format
abbrev pub vd_version : ℕ
vd_version = 0

-- the offset, in a definition, of its version index
abbrev pub vd_ndx : ℕ
vd_ndx = 4

-- the offset, in a definition, of the number of its auxiliary entries
abbrev pub vd_cnt : ℕ
vd_cnt = 6

-- the offset, in a definition, of the offset of its first auxiliary entry, counted from the definition
abbrev pub vd_aux : ℕ
vd_aux = 12

-- the offset, in a definition, of the offset of the next definition, counted from this one
abbrev pub vd_next : ℕ
vd_next = 16

-- the only version of the format of definitions
abbrev pub ver_def_current : ℕ
ver_def_current = 1

-- the size of an auxiliary entry, `Elf64_Verdaux`
abbrev pub verdaux_size : ℕ
verdaux_size = 8

-- the offset, in an auxiliary entry, of the offset of its name in the string table
abbrev pub vda_name : ℕ
vda_name = 0
