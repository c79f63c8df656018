-- The version of a dynamic symbol, and the first fault of versions. The first section of type GNU versym has an index for
-- each symbol: bit 15 marks the version as hidden, and the rest is the index of a definition, or
-- `ver_ndx_local` or `ver_ndx_global`. Without the section each symbol has the index `ver_ndx_global`.
use Rattle.std.specs.Prelude.{ℕ, ◌*◌, ◌/◌, ◌%◌, ◌==◌, nat_lt, nat_le, Bool, false, not, if◌then◌else◌, List, ◌∷◌, length, map, slice_get, Option, Some, None, option_and_then}
use Rattle.std.specs.List.{range_with_len}
use Rattle.std.specs.Option.{option_map, option_map_or}
use Rattle.abi_base.specs.declared.fault.Fault.{Fault}
use Rattle.abi_base.specs.declared.fault.FaultKind.TheVariants as kind
use Rattle.abi_base.specs.Numbers.{number}
use Rattle.abi_base.specs.Outcome.{fault_if, first}
use Rattle.elf.specs.file.Elf.{section_of_kind}
use Rattle.abi_base.specs.GnuVersions.{sht_gnu_versym, versym_size, versym_hidden, ver_ndx_global}
use Rattle.elf.specs.versions.Definitions.{version_name, definition_faults}

-- a version, without the address of its name in memory
pub record PlainVersion : Type 0 where
  pub name : Option (List ℕ)
  pub index : ℕ
  pub hidden : Bool

-- the table of the symbols' version indexes, if the file has one
abbrev pub index_table : List ℕ → Option (List ℕ)
index_table f = option_map (λ s. s.bytes) (section_of_kind f sht_gnu_versym)

-- the version index of a symbol including bit 15, from such a table or without one
abbrev pub index_in : Option (List ℕ) → ℕ → ℕ
index_in table i = option_map_or (λ t. number 2 t (versym_size * i)) table ver_ndx_global

-- the version index of a symbol, including bit 15
unfoldable pub version_index : List ℕ → ℕ → ℕ
version_index f i = index_in (index_table f) i

-- the version with an index, if the index means no version or has a name
abbrev pub version_by : (ℕ → Option (List ℕ)) → ℕ → Bool → Option PlainVersion
version_by name_with index hidden =
    if nat_le index ver_ndx_global
    then Some (record { name = None; index = index; hidden = hidden })
    else option_map (λ (name : List ℕ). record { name = Some name; index = index; hidden = hidden }) (name_with index)

-- the version for an index with its bit 15
abbrev pub version_from : (ℕ → Option (List ℕ)) → ℕ → Option PlainVersion
version_from name_with raw = version_by name_with (raw % versym_hidden) (raw / versym_hidden == 1)

-- the version with an index, if the index means no version or is defined
abbrev pub version_with : List ℕ → ℕ → Bool → Option PlainVersion
version_with f index hidden = version_by (version_name f) index hidden

-- the version of a symbol, in a file with this many symbols
unfoldable pub version_at : List ℕ → ℕ → ℕ → Option PlainVersion
version_at f symbols i =
    if nat_lt i symbols
    then version_with f (version_index f i % versym_hidden) (version_index f i / versym_hidden == 1)
    else None

-- the versions of all symbols, by number
abbrev pub versions_of : List ℕ → ℕ → List (Option PlainVersion)
versions_of f symbols = map (version_at f symbols) (range_with_len 0 symbols)

-- the version at an index in such a list
abbrev pub version_in : List (Option PlainVersion) → ℕ → Option PlainVersion
version_in versions i = option_and_then (λ version. version) (slice_get versions i)

-- the fault of a table that does not have one index for each symbol
abbrev pub table_fault : List ℕ → ℕ → Option Fault
table_fault f symbols =
    fault_if (option_map_or (λ s. not (length s.bytes == versym_size * symbols)) (section_of_kind f sht_gnu_versym) false) kind.VersionTable 0

-- the table of indexes, then the definitions
abbrev pub version_faults : List ℕ → ℕ → List (Option Fault)
version_faults f symbols = table_fault f symbols ∷ definition_faults f

-- the first fault of the versions of a file with this many symbols
unfoldable pub version_fault : List ℕ → ℕ → Option Fault
version_fault f symbols = first (version_faults f symbols)
