-- A generated library: an ELF-64 shared object for x86-64 with a section header table and no segments (System V gABI).
use Rattle.std.specs.Prelude.{ℕ, ◌+◌, ◌-◌, List, [], ◌∷◌, ◌++◌, length, take, replicate, codes, slice_index_or}
use Rattle.std.specs.List.{flat_map}
use Rattle.abi_base.specs.Elf.{elfmag, elfclass64, elfdata2lsb, ev_current, et_dyn, em_x86_64, shdr_size, ehdr_size, sym_size, sht_dynsym, sht_strtab}
use Rattle.trial_libraries.specs.declared.making.Side.{Side}
use Rattle.trial_libraries.specs.Abbreviations.{abbreviations}
use Rattle.trial_libraries.specs.Bytes.{number_bytes, string_table, filled}
use Rattle.trial_libraries.specs.Symbols.{symbol_table, function_names}
use Rattle.trial_libraries.specs.Units.{ring_length, units}

-- the type of a section whose contents only programs interpret
abbrev pub sht_progbits : ℕ
sht_progbits = 1

-- ---- `Elf64_Ehdr` of a file with sections 0 to 5, where section 5 has their names. The entry point, the fields on segments, the
-- flags and the header's own size are 0.

-- `e_ident`, `e_type`, `e_machine` and `e_version`
unfoldable pub file_kind : List ℕ
file_kind = elfmag ++ elfclass64 ∷ elfdata2lsb ∷ ev_current ∷ replicate 9 0 ++ number_bytes 2 et_dyn ++ number_bytes 2 em_x86_64 ++ number_bytes 4 ev_current

-- `e_entry`, `e_phoff` and `e_shoff`
unfoldable pub file_places : ℕ → List ℕ
file_places table = number_bytes 8 0 ++ number_bytes 8 0 ++ number_bytes 8 table

-- `e_flags`, `e_ehsize`, `e_phentsize`, `e_phnum`, `e_shentsize`, `e_shnum` and `e_shstrndx`
unfoldable pub file_sizes : List ℕ
file_sizes = number_bytes 4 0 ++ number_bytes 2 0 ++ number_bytes 2 0 ++ number_bytes 2 0 ++ number_bytes 2 shdr_size ++ number_bytes 2 6 ++ number_bytes 2 5

-- the header of a file with its section header table at an offset
unfoldable pub file_header : ℕ → List ℕ
file_header table = file_kind ++ file_places table ++ file_sizes

-- ---- sections

-- `Elf64_Shdr`: `sh_name`, `sh_type`, `sh_flags`, `sh_addr`, `sh_offset`, `sh_size`, `sh_link`, `sh_info`, `sh_addralign` and
-- `sh_entsize`
unfoldable pub section_header : ℕ → ℕ → ℕ → ℕ → ℕ → ℕ → ℕ → List ℕ
section_header name type place size link info entry_size = number_bytes 4 name ++ number_bytes 4 type ++ number_bytes 8 0 ++ number_bytes 8 0 ++ number_bytes 8 place ++ number_bytes 8 size ++ number_bytes 4 link ++ number_bytes 4 info ++ number_bytes 8 8 ++ number_bytes 8 entry_size

-- the names of sections 1 to 5
abbrev pub section_names : List (List ℕ)
section_names = codes ".dynsym" ∷ codes ".dynstr" ∷ codes ".debug_abbrev" ∷ codes ".debug_info" ∷ codes ".shstrtab" ∷ []

-- the offset of the name of section k in the table of these names
abbrev pub section_name_place : ℕ → ℕ
section_name_place k = length (string_table (take (k - 1) section_names))

-- the offset of section k: after the header and the sections before it, each padded with zeros. `contents` lists those of the
-- sections from 1 on.
unfoldable pub section_place : List (List ℕ) → ℕ → ℕ
section_place contents k = ehdr_size + length (flat_map filled (take (k - 1) contents))

-- the header of section k
abbrev pub header_of : List (List ℕ) → ℕ → ℕ → ℕ → ℕ → ℕ → List ℕ
header_of contents k type link info entry_size = section_header (section_name_place k) type (section_place contents k) (length (slice_index_or contents (k - 1) [])) link info entry_size

-- the section header table: section 0 is zeros; section 2 has the names of the symbols, and symbol 1 is the first that is not local
unfoldable pub section_table : List (List ℕ) → List ℕ
section_table contents = replicate shdr_size 0
    ++ header_of contents 1 sht_dynsym 2 1 sym_size
    ++ header_of contents 2 sht_strtab 0 0 0
    ++ header_of contents 3 sht_progbits 0 0 0
    ++ header_of contents 4 sht_progbits 0 0 0
    ++ header_of contents 5 sht_strtab 0 0 0

-- a file with these sections: its header, the sections, and the section header table
unfoldable pub file_of : List (List ℕ) → List ℕ
file_of contents = file_header (section_place contents 6) ++ flat_map filled contents ++ section_table contents

-- the contents of sections 1 to 5
abbrev pub contents_of : List ℕ → List ℕ → List ℕ → List (List ℕ)
contents_of symbols names info = symbols ∷ names ∷ abbreviations ∷ info ∷ string_table section_names ∷ []

-- the same in a library of n functions
abbrev pub section_contents : ℕ → Side → List (List ℕ)
section_contents n side = contents_of (symbol_table n) (string_table (function_names n)) (units n (ring_length side))

-- the library of n functions that `make` gives for a side
unfoldable pub library : ℕ → Side → List ℕ
library n side = file_of (section_contents n side)
