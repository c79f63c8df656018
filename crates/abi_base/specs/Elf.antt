-- The constants of the System V gABI (ELF-64, x86-64) that definitions use, with the symbol binding and the symbol type
-- that GNU adds. Names are the standard's own, in lower case.
use Rattle.std.specs.Prelude.{ℕ, List, ◌∷◌, codes}

-- ---- the file header ("ELF Header") and section headers ("Sections")

-- the size of an ELF-64 file header, `Elf64_Ehdr`
abbrev pub ehdr_size : ℕ
ehdr_size = 64

-- the size of a section header, `Elf64_Shdr`
abbrev pub shdr_size : ℕ
shdr_size = 64

-- the magic number: the first four bytes of a file
abbrev pub elfmag : List ℕ
elfmag = 0x7f ∷ codes "ELF"

-- the index of the identification byte for the class, which is the width of addresses
abbrev pub ei_class : ℕ
ei_class = 4

-- the index of the identification byte for the byte order
abbrev pub ei_data : ℕ
ei_data = 5

-- the index of the identification byte for the version of the identification
abbrev pub ei_version : ℕ
ei_version = 6

-- the offset of the object file type in the file header
abbrev pub e_type : ℕ
e_type = 16

-- the offset of the machine in the file header
abbrev pub e_machine : ℕ
e_machine = 18

-- the offset of the format version in the file header
abbrev pub e_version : ℕ
e_version = 20

-- the offset, in the file header, of the offset of the section header table
abbrev pub e_shoff : ℕ
e_shoff = 40

-- the offset, in the file header, of the size of a section header
abbrev pub e_shentsize : ℕ
e_shentsize = 58

-- the offset, in the file header, of the number of section headers; where that is 0, section 0 has it
abbrev pub e_shnum : ℕ
e_shnum = 60

-- the offset, in the file header, of the index of the section name string table; `SHN_XINDEX` where section 0 has it
abbrev pub e_shstrndx : ℕ
e_shstrndx = 62

-- the class of 64-bit files
abbrev pub elfclass64 : ℕ
elfclass64 = 2

-- the little-endian byte order
abbrev pub elfdata2lsb : ℕ
elfdata2lsb = 1

-- the only version of the format
abbrev pub ev_current : ℕ
ev_current = 1

-- the type of shared objects
abbrev pub et_dyn : ℕ
et_dyn = 3

-- the machine x86-64
abbrev pub em_x86_64 : ℕ
em_x86_64 = 62

-- the `e_shstrndx` that refers to the `sh_link` of section 0
abbrev pub shn_xindex : ℕ
shn_xindex = 0xffff

-- the offset, in a section header, of the offset of its name in the section name string table
abbrev pub sh_name : ℕ
sh_name = 0

-- the offset of the type in a section header
abbrev pub sh_type : ℕ
sh_type = 4

-- the offset of the flags in a section header
abbrev pub sh_flags : ℕ
sh_flags = 8

-- the offset, in a section header, of the file offset of the section's contents
abbrev pub sh_offset : ℕ
sh_offset = 24

-- the offset, in a section header, of the section's size
abbrev pub sh_size : ℕ
sh_size = 32

-- the offset, in a section header, of the index of a linked section
abbrev pub sh_link : ℕ
sh_link = 40

-- the offset, in a section header, of further information, which depends on the type
abbrev pub sh_info : ℕ
sh_info = 44

-- the offset, in a section header, of the size of one table entry
abbrev pub sh_entsize : ℕ
sh_entsize = 56

-- an inactive section header
abbrev pub sht_null : ℕ
sht_null = 0

-- a string table
abbrev pub sht_strtab : ℕ
sht_strtab = 3

-- the dynamic table
abbrev pub sht_dynamic : ℕ
sht_dynamic = 6

-- a section that holds no bytes in the file
abbrev pub sht_nobits : ℕ
sht_nobits = 8

-- the dynamic symbol table
abbrev pub sht_dynsym : ℕ
sht_dynsym = 11

-- the flag of a compressed section
abbrev pub shf_compressed : ℕ
shf_compressed = 0x800

-- the prefix of the names of debug sections
abbrev pub debug_prefix : List ℕ
debug_prefix = codes ".debug_"

-- the prefix of the names of debug sections that are compressed in the older GNU style
abbrev pub zdebug_prefix : List ℕ
zdebug_prefix = codes ".zdebug_"

-- ---- symbols ("Symbol Table") and the dynamic table ("Dynamic Section")

-- the size of a symbol, `Elf64_Sym`
abbrev pub sym_size : ℕ
sym_size = 24

-- the offset, in a symbol, of the offset of its name in the string table
abbrev pub st_name : ℕ
st_name = 0

-- the offset, in a symbol, of the byte with its binding in the high four bits and its type in the low four
abbrev pub st_info : ℕ
st_info = 4

-- the offset, in a symbol, of the byte with its visibility in the two lowest bits
abbrev pub st_other : ℕ
st_other = 5

-- the offset, in a symbol, of the index of its section
abbrev pub st_shndx : ℕ
st_shndx = 6

-- the offset of the value in a symbol
abbrev pub st_value : ℕ
st_value = 8

-- the offset of the size in a symbol
abbrev pub st_size : ℕ
st_size = 16

-- a symbol that is visible only in its own file
abbrev pub stb_local : ℕ
stb_local = 0

-- a symbol that is visible to all files
abbrev pub stb_global : ℕ
stb_global = 1

-- a global symbol of lower precedence
abbrev pub stb_weak : ℕ
stb_weak = 2

-- a global symbol that is unique in a process
abbrev pub stb_gnu_unique : ℕ
stb_gnu_unique = 10

-- a symbol without a type
abbrev pub stt_notype : ℕ
stt_notype = 0

-- a data object
abbrev pub stt_object : ℕ
stt_object = 1

-- a function
abbrev pub stt_func : ℕ
stt_func = 2

-- an uninitialized common block
abbrev pub stt_common : ℕ
stt_common = 5

-- a thread-local object
abbrev pub stt_tls : ℕ
stt_tls = 6

-- a function whose resolver runs when the file is loaded
abbrev pub stt_gnu_ifunc : ℕ
stt_gnu_ifunc = 10

-- the visibility that the binding implies
abbrev pub stv_default : ℕ
stv_default = 0

-- visible to other files, but not preempted by them
abbrev pub stv_protected : ℕ
stv_protected = 3

-- the section index of an undefined symbol
abbrev pub shn_undef : ℕ
shn_undef = 0

-- the section index of a symbol with an absolute value
abbrev pub shn_abs : ℕ
shn_abs = 0xfff1

-- the size of an entry of the dynamic table, `Elf64_Dyn`
abbrev pub dyn_size : ℕ
dyn_size = 16

-- the offset of the tag in an entry of the dynamic table
abbrev pub d_tag : ℕ
d_tag = 0

-- the offset of the value in an entry of the dynamic table
abbrev pub d_val : ℕ
d_val = 8

-- the tag that ends the table
abbrev pub dt_null : ℕ
dt_null = 0

-- the tag of the name of the shared object
abbrev pub dt_soname : ℕ
dt_soname = 14
