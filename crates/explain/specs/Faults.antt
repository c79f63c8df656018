-- The words for each kind of fault, before its number, its name and its position. A file is the list of its bytes.
use Rattle.std.specs.Prelude.{ℕ, ◌+◌, ◌*◌, ◌^◌, ◌==◌, ◌&&◌, ◌||◌, nat_eq, nat_le, nat_lt, if◌then◌else◌, Bool, true, false, List, [], ◌∷◌, ◌++◌, drop, length, Option, Some, None, option_and_then, codes, decimal, unwrap_or, slice_get}
use Rattle.std.specs.Fmt.{digits}
use Rattle.std.specs.List.{concat, list_all, starts_with}
use Rattle.abi_base.specs.Numbers.{number_at, text_at}
use Rattle.abi_base.specs.declared.fault.Fault.{Fault}
use Rattle.abi_base.specs.declared.fault.FaultKind.{FaultKind}
use Rattle.abi_base.specs.declared.fault.FaultKind.TheVariants as fault
use Rattle.explain.specs.declared.places.Place.{Place}
use Rattle.explain.specs.declared.places.Place.TheVariants.{File, Section, Symbol, DynamicEntry, Definition, Need, Info, Abbreviations, Line}

-- ---- positions

-- what the position of a fault counts, by its kind: the bytes of `.debug_info` for those that are not named here
unfoldable pub place_of : FaultKind → Place
place_of fault.ShortFile = File
place_of fault.NotElf = File
place_of fault.Class = File
place_of fault.Data = File
place_of fault.Version = File
place_of fault.NotShared = File
place_of fault.Machine = File
place_of fault.SectionTable = File
place_of fault.NoDynamicSymbols = File
place_of fault.VersionTable = File
place_of fault.TooLong = File
place_of fault.SectionRange = Section
place_of fault.SectionName = Section
place_of fault.Compressed = Section
place_of fault.SymbolTable = Symbol
place_of fault.VersionIndex = Symbol
place_of fault.DuplicateExport = Symbol
place_of fault.ImportVersion = Symbol
place_of fault.DynamicTable = DynamicEntry
place_of fault.VersionDefinition = Definition
place_of fault.VersionNeed = Need
place_of fault.Abbrev = Abbreviations
place_of fault.BadText = Line
place_of fault.RuleLine = Line
place_of fault.Section = Line
place_of fault.Property = Line
place_of fault.EmptyRule = Line
place_of fault.BadPattern = Line
place_of fault.LongPattern = Line
place_of fault.Repeated = Line
place_of fault.Brace = Line
place_of fault.CertLine = Line
place_of fault.Order = Line
place_of fault.End = Line
place_of kind = Info

-- ---- faults of a file as a whole

-- A static archive begins with `!<arch>` and a line feed (10), a thin one with `!<thin>`, and a Debian package with an archive whose
-- first member is `debian-binary` (deb(5)).
abbrev pub is_archive : List ℕ → Bool
is_archive file = starts_with nat_eq file (codes "!<arch>" ++ 10 ∷ []) || starts_with nat_eq file (codes "!<thin>" ++ 10 ∷ [])

abbrev pub is_debian : List ℕ → Bool
is_debian file = starts_with nat_eq file (codes "!<arch>" ++ 10 ∷ codes "debian-binary")

-- the magic number of an RPM package
abbrev pub is_rpm : List ℕ → Bool
is_rpm file = starts_with nat_eq file (0xed ∷ 0xab ∷ 0xee ∷ 0xdb ∷ [])

-- the magic number of an ELF file (gABI, "ELF Identification")
abbrev pub is_elf : List ℕ → Bool
is_elf file = starts_with nat_eq file (0x7f ∷ codes "ELF")

-- the usual beginnings of linker scripts
abbrev pub is_script : List ℕ → Bool
is_script file =
    starts_with nat_eq file (codes "/* GNU ld script") || starts_with nat_eq file (codes "INPUT") || starts_with nat_eq file (codes "GROUP")
    || starts_with nat_eq file (codes "OUTPUT_FORMAT") || starts_with nat_eq file (codes "OUTPUT_ARCH")

-- the words for a file that is not an ELF file
unfoldable pub other_file_words : List ℕ → List ℕ
other_file_words file =
    if is_debian file then codes "it is a Debian package; give a shared object (.so) out of it, or compare packages with abi-packages"
    else if is_rpm file then codes "it is an RPM package; give a shared object (.so) out of it, or compare packages with abi-packages"
    else if is_archive file then codes "it is a static archive; give the shared object (.so) itself"
    else if is_script file then codes "it is a linker script; give the shared object that it names"
    else codes "it is not an ELF file"

-- the words for a file that is too short for an ELF header
abbrev pub short_words : (length : ℕ) → List ℕ → List ℕ
short_words length file =
    if length == 0 then codes "it is empty" else if is_elf file then codes "it ends inside its ELF header" else other_file_words file

-- the words for a file by its class, the byte at 4: ELFCLASS32 is 1 (gABI, "ELF Identification")
abbrev pub class_words : Option ℕ → List ℕ
class_words None = codes "it is not a 64-bit file; only 64-bit shared objects for x86-64 are read"
class_words (Some class) =
    if class == 1 then codes "it is a 32-bit file; only 64-bit shared objects for x86-64 are read"
    else codes "it is not a 64-bit file; only 64-bit shared objects for x86-64 are read"

-- the words for a file by its byte order, the byte at 5: ELFDATA2MSB is 2 (gABI, "ELF Identification")
abbrev pub order_words : Option ℕ → List ℕ
order_words None = codes "it is not a little-endian file; only shared objects for x86-64 are read"
order_words (Some order) =
    if order == 2 then codes "it is a big-endian file; only shared objects for x86-64 are read"
    else codes "it is not a little-endian file; only shared objects for x86-64 are read"

-- the words for a file by its type, the two bytes at 16: ET_REL is 1, ET_EXEC is 2 and ET_CORE is 4 (gABI, "ELF Header")
abbrev pub type_words : Option ℕ → List ℕ
type_words None = codes "it is not a shared object"
type_words (Some type) =
    if type == 1 then codes "it is an object file (.o), not a shared object"
    else if type == 2 then codes "it is an executable at a fixed address (compiled with -no-pie), not a shared object or a position-independent executable"
    else if type == 4 then codes "it is a core dump, not a shared object"
    else codes "it is not a shared object"

-- the words for a fault of a file as a whole; the position of ShortFile is the length of the file
unfoldable pub file_words : FaultKind → (at : ℕ) (file : List ℕ) → List ℕ
file_words fault.ShortFile at file = short_words at file
file_words fault.NotElf at file = other_file_words file
file_words fault.Class at file = class_words (slice_get file 4)
file_words fault.Data at file = order_words (slice_get file 5)
file_words fault.Version at file = codes "it is of an ELF version that does not exist"
file_words fault.NotShared at file = type_words (number_at 2 file 16)
file_words fault.Machine at file = codes "it is for another processor than x86-64"
file_words fault.SectionTable at file = codes "its section table is missing or damaged; a file whose section headers were stripped cannot be read"
file_words fault.NoDynamicSymbols at file = codes "it has no table of dynamic symbols (.dynsym)"
file_words fault.VersionTable at file = codes "its table of symbol versions has not one entry for each dynamic symbol"
file_words kind at file = codes "it is longer than 256 MiB"

-- ---- names of sections

-- the offset of the header of a section, if it fits in 64 bits: `e_shoff`, the eight bytes at 40, is that of the first one, and each
-- has 64 bytes (gABI, "ELF Header" and "Section Header")
abbrev pub fitting : ℕ → Option ℕ
fitting offset = if nat_lt offset (2 ^ 64) then Some offset else None

unfoldable pub header_offset : List ℕ → (i : ℕ) → Option ℕ
header_offset file i = option_and_then (λ table. fitting (table + 64 * i)) (number_at 8 file 40)

-- The index of the section of names: `e_shstrndx`, the two bytes at 62; if it is 0xffff, `sh_link` of section 0, the four bytes at 40
-- of its header.
abbrev pub names_index_by : List ℕ → ℕ → Option ℕ
names_index_by file index = if index == 0xffff then option_and_then (λ header. number_at 4 file (header + 40)) (header_offset file 0) else Some index

unfoldable pub names_index : List ℕ → Option ℕ
names_index file = option_and_then (names_index_by file) (number_at 2 file 62)

-- the offset of the section of names: `sh_offset`, the eight bytes at 24 of its header
unfoldable pub names_offset : List ℕ → Option ℕ
names_offset file = option_and_then (λ header. number_at 8 file (header + 24)) (option_and_then (header_offset file) (names_index file))

-- the bytes from the section of names on, if it begins inside the file
abbrev pub from_inside : List ℕ → ℕ → Option (List ℕ)
from_inside file at = if nat_le at (length file) then Some (drop at file) else None

unfoldable pub names_in : List ℕ → Option (List ℕ)
names_in file = option_and_then (from_inside file) (names_offset file)

-- the name of a section: `sh_name`, the first four bytes of its header, is where it begins in the section of names
abbrev pub name_at : List ℕ → ℕ → Option (List ℕ)
name_at file name = option_and_then (λ names. text_at names name) (names_in file)

unfoldable pub section_name : List ℕ → (i : ℕ) → Option (List ℕ)
section_name file i = option_and_then (λ header. option_and_then (name_at file) (number_at 4 file header)) (header_offset file i)

-- ---- faults of a section, a symbol, an entry or a definition

-- the words after the number of the part
unfoldable pub numbered_words : FaultKind → List ℕ
numbered_words fault.SectionRange = codes "does not lie inside the file, which may have been cut short"
numbered_words fault.SectionName = codes "has a name that does not end inside the section of names"
numbered_words fault.Compressed = codes "is compressed; uncompress it with: objcopy --decompress-debug-sections FILE NEW_FILE"
numbered_words fault.SymbolTable = codes "is damaged, or its name does not end inside the table of names"
numbered_words fault.VersionIndex = codes "has a version that is not defined"
numbered_words fault.DuplicateExport = codes "has the name and the version of an earlier export"
numbered_words fault.ImportVersion = codes "is imported with a version that the file does not name among those that it needs"
numbered_words fault.DynamicTable = codes "is damaged, or the soname does not end inside the table of names"
numbered_words kind = codes "is damaged"

-- the words for a fault of a whole table, which is one of its entry 0
unfoldable pub table_words : FaultKind → Option (List ℕ)
table_words fault.SymbolTable = Some (codes "the table of dynamic symbols is damaged")
table_words fault.DynamicTable = Some (codes "the dynamic table is damaged, or its soname does not end inside the table of names")
table_words kind = None

-- the words for a fault of the part with a number
abbrev pub part_words : (part : List ℕ) → FaultKind → (at : ℕ) → List ℕ
part_words part kind at = concat (part ∷ codes " " ∷ decimal at ∷ codes " " ∷ numbered_words kind ∷ [])

-- those of a whole table, if it is one, or of an entry of the table
abbrev pub table_or : FaultKind → (at : ℕ) (entry : List ℕ) → List ℕ
table_or kind at entry = if at == 0 then unwrap_or (table_words kind) entry else entry

-- ---- faults of debug information

-- the words for a fault of a unit
unfoldable pub unit_words : FaultKind → Option (List ℕ)
unit_words fault.UnitHeader = Some (codes "the header of the unit is damaged")
unit_words fault.DwarfVersion = Some (codes "the unit is of a version of DWARF that is not read; compile with -gdwarf-5 or -gdwarf-4")
unit_words fault.UnitType = Some (codes "the unit is of a type that is not read, as split debug information is; compile without -gsplit-dwarf")
unit_words fault.AddressSize = Some (codes "the unit has addresses that are not of eight bytes")
unit_words fault.Dwarf64 = Some (codes "the unit is in the 64-bit format of DWARF, which is not read")
unit_words fault.TypeOffset = Some (codes "the type unit has no entry where its type should stand")
unit_words fault.Language = Some (codes "the language of the unit is not C or assembler; only units in these are read")
unit_words kind = None

-- the words for a fault of an entry
unfoldable pub entry_words : FaultKind → List ℕ
entry_words fault.AbbrevCode = codes "the entry has an abbreviation that is not in its table"
entry_words fault.Form = codes "the entry has an attribute of a form that is not known"
entry_words fault.Cut = codes "the entry does not end inside its unit"
entry_words fault.Tree = codes "the entries are not nested as they should be"
entry_words fault.Text = codes "the name of the entry is no text that ends inside its section"
entry_words fault.Index = codes "an index of the entry leads to no place in its section"
entry_words fault.Ranges = codes "the list of ranges of the entry is damaged"
entry_words fault.Reference =
    codes "the entry refers to one that is not there, as one in .debug_types is not, which DWARF 4 has by -fdebug-types-section; compile without it, or with -gdwarf-5"
entry_words fault.Shape = codes "the type lacks something that describes it, or is of a kind that is not read"
entry_words fault.TooDeep = codes "the type holds others by value more than 512 deep"
entry_words fault.TooLarge = codes "the type, or the place of a member of it, is too large"
entry_words fault.Supplementary = codes "the entry refers to a supplementary file (made by dwz -m), which is not read"
entry_words kind = codes "the entry has a chain of more than 8 origins"

abbrev pub info_words : FaultKind → List ℕ
info_words kind = unwrap_or (unit_words kind) (entry_words kind)

-- these words for a fault at an offset in a section; the offset is in hexadecimal
abbrev pub offset_words : (at : ℕ) (section words : List ℕ) → List ℕ
offset_words at section words = concat (codes "offset 0x" ∷ digits 16 false at ∷ codes " of " ∷ section ∷ codes ": " ∷ words ∷ [])

-- ---- faults of rule files and certificates

-- the words for a fault in a line
unfoldable pub line_words : FaultKind → List ℕ
line_words fault.BadText = codes "it is not UTF-8"
line_words fault.RuleLine = codes "it is no comment, no section and no property of a section"
line_words fault.Section = codes "there is no section of this name"
line_words fault.Property = codes "the section has no such property, or none with this value"
line_words fault.EmptyRule = codes "the section says nothing of what it leaves out"
line_words fault.BadPattern = codes "the pattern is no regular expression"
line_words fault.LongPattern = codes "the pattern has more than 256 bytes"
line_words fault.Repeated = codes "the section has this property twice"
line_words fault.Brace = codes "the pattern has a brace, which is not read"
line_words fault.CertLine = codes "it is no line of a certificate, or not the one that belongs there"
line_words fault.Order = codes "it is out of order"
line_words kind = codes "the certificate does not end with its line 'end'"

-- ---- all faults

-- the name of a section in brackets, if it is known and all its characters are visible: those from `!` (33) to `~` (126)
abbrev pub is_visible : ℕ → Bool
is_visible byte = nat_le 33 byte && nat_le byte 126

abbrev pub bracketed : Option (List ℕ) → List ℕ
bracketed None = []
bracketed (Some name) = if list_all is_visible name then concat (codes " (" ∷ name ∷ codes ")" ∷ []) else []

-- the words for a fault whose position counts this
abbrev pub words_at : Place → FaultKind → (at : ℕ) (file : List ℕ) → List ℕ
words_at File kind at file = file_words kind at file
words_at Section kind at file = concat (codes "section " ∷ decimal at ∷ bracketed (section_name file at) ∷ codes " " ∷ numbered_words kind ∷ [])
words_at Symbol kind at file = table_or kind at (part_words (codes "dynamic symbol") kind at)
words_at DynamicEntry kind at file = table_or kind at (concat (codes "entry " ∷ decimal at ∷ codes " of the dynamic table " ∷ numbered_words kind ∷ []))
words_at Definition kind at file = part_words (codes "version definition") kind at
words_at Need kind at file = part_words (codes "version need") kind at
words_at Info kind at file = offset_words at (codes ".debug_info") (info_words kind)
words_at Abbreviations kind at file = offset_words at (codes ".debug_abbrev") (codes "the abbreviation is damaged")
words_at Line kind at file = concat (codes "line " ∷ decimal at ∷ codes ": " ∷ line_words kind ∷ [])

-- the words for a fault of an input with these bytes
unfoldable pub fault_words : Fault → (file : List ℕ) → List ℕ
fault_words fault file = words_at (place_of fault.kind) fault.kind fault.at file

-- the sentence goes on with what a rule file may have in place of the line
abbrev pub has_more : FaultKind → Bool
has_more fault.Section = true
has_more fault.Property = true
has_more kind = false
