-- ELF-64 files: the section header table, the contents of sections, and the first fault of a file. A file is the list of its bytes.
-- A section's number is its index in the section header table. All look-ups are total: in a damaged file they give the bytes that
-- are there, and an earlier fault says that these mean nothing.
use Rattle.std.specs.Prelude.{ℕ, ◌+◌, ◌*◌, ◌/◌, ◌%◌, ◌≡◌, ◌<◌, ◌≤◌, nat_lt, nat_le, ◌==◌, Bool, false, not, ◌||◌, ◌&&◌, if◌then◌else◌, is_none, List, [], ◌∷◌, ◌++◌, length, take, drop, map, slice_index, Option, Some, None, find}
use Rattle.std.specs.List.{range_with_len}
use Rattle.std.specs.Option.{option_map, option_map_or}
use Rattle.std.specs.Str.{bytes_eq}
use Rattle.abi_base.specs.declared.fault.Fault.{Fault}
use Rattle.abi_base.specs.declared.fault.FaultKind.TheVariants as kind
use Rattle.abi_base.specs.Numbers.{number, text_at}
use Rattle.abi_base.specs.Outcome.{fault_if, first}
use Rattle.elf.specs.declared.file.records.SectionHeader.{SectionHeader}
use Rattle.elf.specs.declared.file.records.SectionTable.{SectionTable}
use Rattle.abi_base.specs.Elf.{ehdr_size, shdr_size, elfmag, ei_class, ei_data, ei_version, e_type, e_machine, e_version, e_shoff, e_shentsize, e_shnum, e_shstrndx, elfclass64, elfdata2lsb, ev_current, et_dyn, em_x86_64, shn_xindex, sh_name, sh_type, sh_flags, sh_offset, sh_size, sh_link, sh_info, sh_entsize, sht_null, sht_strtab, sht_nobits, shf_compressed, debug_prefix, zdebug_prefix}

-- ---- the section header table (gABI, "ELF Header" and "Section Header")

-- the section header at an offset
unfoldable pub header_at : List ℕ → ℕ → SectionHeader
header_at f at = record {
  name = number 4 f (at + sh_name);
  kind = number 4 f (at + sh_type);
  flags = number 8 f (at + sh_flags);
  offset = number 8 f (at + sh_offset);
  size = number 8 f (at + sh_size);
  link = number 4 f (at + sh_link);
  info = number 4 f (at + sh_info);
  entsize = number 8 f (at + sh_entsize);
}

-- Section 0 has the count as its size where the file header has 0, and the index of names as its link where that has `shn_xindex`.
unfoldable pub table : List ℕ → SectionTable
table f =
    let at = number 8 f e_shoff in
    let zeroth = header_at f at in
    record {
      at = at;
      count = (if number 2 f e_shnum == 0 then zeroth.size else number 2 f e_shnum);
      names = (if number 2 f e_shstrndx == shn_xindex then zeroth.link else number 2 f e_shstrndx);
    }

-- the header of the section with this number
unfoldable pub section : List ℕ → ℕ → SectionHeader
section f i = header_at f ((table f).at + shdr_size * i)

-- the numbers of all sections
abbrev pub all_sections : List ℕ → List ℕ
all_sections f = range_with_len 0 (table f).count

-- Section 0 and sections of type NULL and NOBITS have no bytes.
abbrev pub holds_bytes : ℕ → SectionHeader → Bool
holds_bytes i s = not (i == 0 || (s.kind == sht_null || s.kind == sht_nobits))

-- the contents of the section with this number
unfoldable pub contents : List ℕ → ℕ → List ℕ
contents f i = if holds_bytes i (section f i) then take (section f i).size (drop (section f i).offset f) else []

-- the name of the section with this number (gABI, "String Table")
unfoldable pub section_name : List ℕ → ℕ → Option (List ℕ)
section_name f i = text_at (contents f (table f).names) (section f i).name

-- ---- look-ups

abbrev pub has_name : List ℕ → List ℕ → ℕ → Bool
has_name f name i = option_map_or (λ n. bytes_eq n name) (section_name f i) false

-- the number of the first section with this name
abbrev pub section_number : List ℕ → List ℕ → Option ℕ
section_number f name = find (has_name f name) (all_sections f)

-- the contents of the first section with this name
abbrev pub section_named : List ℕ → List ℕ → Option (List ℕ)
section_named f name = option_map (contents f) (section_number f name)

-- whether a name begins with these bytes
abbrev pub starts : List ℕ → List ℕ → Bool
starts name prefix = bytes_eq (take (length prefix) name) prefix

-- a section, without the address of its bytes in memory
pub record SectionView : Type 0 where
  pub index : ℕ
  pub bytes : List ℕ
  pub link : ℕ
  pub info : ℕ
  pub entsize : ℕ

abbrev pub section_view : List ℕ → ℕ → SectionView
section_view f i = record { index = i; bytes = contents f i; link = (section f i).link; info = (section f i).info; entsize = (section f i).entsize }

-- the first section of this type
abbrev pub section_of_kind : List ℕ → ℕ → Option SectionView
section_of_kind f k = option_map (section_view f) (find (λ i. (section f i).kind == k) (all_sections f))

-- the contents of the section with this number, if there is one and it is a string table
abbrev pub strings_of : List ℕ → ℕ → Option (List ℕ)
strings_of f i = if nat_lt i (table f).count && (section f i).kind == sht_strtab then Some (contents f i) else None

-- the name of the section with this number, if there is one
abbrev pub name_of_section : List ℕ → ℕ → Option (List ℕ)
name_of_section f i = if nat_lt i (table f).count then section_name f i else None

-- ---- faults

-- There is no table, or it is not inside the file, or the section of names is missing or is not a string table.
abbrev pub is_table_bad : List ℕ → Bool
is_table_bad f =
    let t = table f in
    t.at == 0 || (not (number 2 f e_shentsize == shdr_size) || (t.count == 0
    || (nat_lt (length f) (t.at + shdr_size * t.count) || (nat_le t.count t.names || not ((section f t.names).kind == sht_strtab)))))

-- the faults of the file header, in the order of their numbers
unfoldable pub header_faults : List ℕ → List (Option Fault)
header_faults f =
    fault_if (nat_lt (length f) ehdr_size) kind.ShortFile (length f)
    ∷ fault_if (not (bytes_eq (take 4 f) elfmag)) kind.NotElf 0
    ∷ fault_if (not (slice_index f ei_class == elfclass64)) kind.Class ei_class
    ∷ fault_if (not (slice_index f ei_data == elfdata2lsb)) kind.Data ei_data
    ∷ fault_if (not (slice_index f ei_version == ev_current)) kind.Version ei_version
    ∷ fault_if (not (number 4 f e_version == ev_current)) kind.Version e_version
    ∷ fault_if (not (number 2 f e_type == et_dyn)) kind.NotShared e_type
    ∷ fault_if (not (number 2 f e_machine == em_x86_64)) kind.Machine e_machine
    ∷ fault_if (is_table_bad f) kind.SectionTable e_shoff
    ∷ []

-- the fault of a section that has bytes but does not lie inside the file
unfoldable pub range_fault : List ℕ → ℕ → Option Fault
range_fault f i =
    fault_if (holds_bytes i (section f i) && nat_lt (length f) ((section f i).offset + (section f i).size)) kind.SectionRange i

-- the fault of a section whose name has no end in the section of names
unfoldable pub name_fault : List ℕ → ℕ → Option Fault
name_fault f i = fault_if (is_none (section_name f i)) kind.SectionName i

-- whether a section is a compressed debug section, by its flag or by its name
abbrev pub is_compressed : List ℕ → ℕ → Bool
is_compressed name flags = (starts name debug_prefix && (flags / shf_compressed) % 2 == 1) || starts name zdebug_prefix

-- the fault of a compressed debug section
unfoldable pub compressed_fault : List ℕ → ℕ → Option Fault
compressed_fault f i =
    fault_if (option_map_or (λ name. is_compressed name (section f i).flags) (section_name f i) false) kind.Compressed i

-- all faults in order: those of the file header, then each kind of fault of a section, section by section
abbrev pub elf_faults : List ℕ → List (Option Fault)
elf_faults f =
    header_faults f ++ (map (range_fault f) (all_sections f) ++ (map (name_fault f) (all_sections f) ++ map (compressed_fault f) (all_sections f)))

-- the first fault of the header and the sections
unfoldable pub elf_fault : List ℕ → Option Fault
elf_fault f = first (elf_faults f)

-- ---- a file without a fault

-- the table lies inside the file, and one of its sections has the names
pub record HasTable (f : List ℕ) : Type 0 where
  pub inside : (table f).at + shdr_size * (table f).count ≤ length f
  pub names : (table f).names < (table f).count

-- each section that has bytes lies inside the file
abbrev pub HasRanges : List ℕ → Type 0
HasRanges f = (i : ℕ) → i < (table f).count → range_fault f i ≡ None
