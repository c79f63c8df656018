-- The version needs of a file, and their first fault. The first section of type GNU verneed has a chain of needs, which the section
-- header's info counts. Each need has the name of a file, a list of auxiliary entries, and the offset of the next need. An
-- auxiliary entry has an index, the name of a version of that file, and the offset of the next entry. The section's link is the
-- index of the string table. All look-ups are total; where a need is damaged, its fault says that they mean nothing.
use Rattle.std.specs.Prelude.{◌≡◌, ◌≤◌, ℕ, zero, suc, ◌+◌, ◌%◌, ◌==◌, nat_lt, Bool, false, not, ◌||◌, ◌&&◌, is_none, List, [], ◌∷◌, length, map, find, Option, unwrap_or, option_and_then}
use Rattle.std.specs.List.{range_with_len, list_any, flat_map, sum_by}
use Rattle.std.specs.Option.{option_map, option_map_or}
use Rattle.abi_base.specs.declared.fault.Fault.{Fault}
use Rattle.abi_base.specs.declared.fault.FaultKind.TheVariants as kind
use Rattle.abi_base.specs.declared.fault.Refusal.{Refusal}
use Rattle.abi_base.specs.declared.fault.Refusal.TheVariants as refusal
use Rattle.abi_base.specs.declared.limit.Limit.{Limit}
use Rattle.abi_base.specs.declared.limit.Limit.TheVariants as limit
use Rattle.abi_base.specs.Budgets.{allowed, counted, Passes}
use Rattle.abi_base.specs.GnuVersions.{sht_gnu_verneed, versym_hidden}
use Rattle.abi_base.specs.Numbers.{number, text_at}
use Rattle.abi_base.specs.Outcome.{fault_if, first}
use Rattle.elf.specs.file.Elf.{section_of_kind, strings_of}
use Rattle.elf_needs.specs.GnuNeeds.{verneed_size, vn_version, vn_cnt, vn_file, vn_aux, vn_next, ver_need_current, vernaux_size, vna_other, vna_name, vna_next}

-- ---- one need, by its number, in the contents of the section

-- the offset of the need with this number: the first is at the start, and each other one at the offset that its predecessor gives
unfoldable pub place_of : List ℕ → ℕ → ℕ
place_of table zero = 0
place_of table (suc k) = place_of table k + number 4 table (place_of table k + vn_next)

-- the name of its file, if it ends in the string table
unfoldable pub file_at : List ℕ → List ℕ → ℕ → Option (List ℕ)
file_at table strings k = text_at strings (number 4 table (place_of table k + vn_file))

-- the number of its auxiliary entries
unfoldable pub entry_count : List ℕ → ℕ → ℕ
entry_count table k = number 2 table (place_of table k + vn_cnt)

-- ---- one auxiliary entry of a need, by its number in the need's list

-- its offset: the need gives that of the first, and each entry that of the next
unfoldable pub entry_place : List ℕ → ℕ → ℕ → ℕ
entry_place table k zero = place_of table k + number 4 table (place_of table k + vn_aux)
entry_place table k (suc j) = entry_place table k j + number 4 table (entry_place table k j + vna_next)

-- the index by which symbols refer to it, without the hidden bit
unfoldable pub index_at : List ℕ → ℕ → ℕ → ℕ
index_at table k j = number 2 table (entry_place table k j + vna_other) % versym_hidden

-- the name of its version, if it ends in the string table
unfoldable pub version_at : List ℕ → List ℕ → ℕ → ℕ → Option (List ℕ)
version_at table strings k j = text_at strings (number 4 table (entry_place table k j + vna_name))

-- ---- faults

-- An auxiliary entry is not inside the section, has a name without an end in the string table, or is not the last of its list and
-- has no next.
unfoldable pub is_bad_entry : List ℕ → List ℕ → ℕ → ℕ → Bool
is_bad_entry table strings k j =
    let at = entry_place table k j in
    nat_lt (length table) (at + vernaux_size)
    || (is_none (version_at table strings k j)
    || (nat_lt (j + 1) (entry_count table k) && number 4 table (at + vna_next) == 0))

-- one of the auxiliary entries of a need is bad
abbrev pub has_bad_entry : List ℕ → List ℕ → ℕ → Bool
has_bad_entry table strings k = list_any (is_bad_entry table strings k) (range_with_len 0 (entry_count table k))

-- A need is not inside the section, has another format version or a file name without an end in the string table, or is not the
-- last and has no next.
unfoldable pub is_malformed : List ℕ → List ℕ → ℕ → ℕ → Bool
is_malformed table strings count k =
    let at = place_of table k in
    nat_lt (length table) (at + verneed_size)
    || (not (number 2 table (at + vn_version) == ver_need_current)
    || (is_none (file_at table strings k)
    || (nat_lt (k + 1) count && number 4 table (at + vn_next) == 0)))

-- the fault of a need, at its number: it is malformed by itself, or one of its auxiliary entries is bad
abbrev pub need_fault : List ℕ → List ℕ → ℕ → ℕ → Option Fault
need_fault table strings count k = fault_if (is_malformed table strings count k || has_bad_entry table strings k) kind.VersionNeed k

-- the refusal of a need
abbrev pub bad_need_at : ℕ → Refusal
bad_need_at k = refusal.Fault (record { kind = kind.VersionNeed; at = k })

-- ---- what a file needs

-- an auxiliary entry: its index, its version, and the file of its need
pub record Entry : Type 0 where
  pub index : ℕ
  pub version : List ℕ
  pub file : List ℕ

-- a version of a file, without the addresses of the names in memory
pub record PlainNeed : Type 0 where
  pub version : List ℕ
  pub file : List ℕ

-- an auxiliary entry of a need; a name without an end in the string table, which is a fault, counts as empty
unfoldable pub entry_of : List ℕ → List ℕ → ℕ → ℕ → Entry
entry_of table strings k j = record {
  index = index_at table k j;
  version = unwrap_or (version_at table strings k j) [];
  file = unwrap_or (file_at table strings k) [];
}

-- the first n auxiliary entries of a need, in order
abbrev pub first_entries : List ℕ → List ℕ → ℕ → ℕ → List Entry
first_entries table strings k n = map (entry_of table strings k) (range_with_len 0 n)

-- all auxiliary entries of a need
abbrev pub entries_of_need : List ℕ → List ℕ → ℕ → List Entry
entries_of_need table strings k = first_entries table strings k (entry_count table k)

-- the auxiliary entries of the first n needs, need by need
abbrev pub entries_of : List ℕ → List ℕ → ℕ → List Entry
entries_of table strings count = flat_map (entries_of_need table strings) (range_with_len 0 count)

-- the version and file of an entry
abbrev pub said_by : Entry → PlainNeed
said_by e = record { version = e.version; file = e.file }

-- the version and file of the first entry with an index, if there is one
abbrev pub need_among : List Entry → ℕ → Option PlainNeed
need_among entries index = option_map said_by (find (λ e. e.index == index) entries)

-- ---- of a file

-- the contents of the section of needs and of its string table, and the number of needs; empty and 0 where there is none
abbrev pub need_table : List ℕ → List ℕ
need_table f = option_map_or (λ s. s.bytes) (section_of_kind f sht_gnu_verneed) []

abbrev pub need_strings : List ℕ → List ℕ
need_strings f = unwrap_or (option_and_then (λ s. strings_of f s.link) (section_of_kind f sht_gnu_verneed)) []

abbrev pub need_count : List ℕ → ℕ
need_count f = option_map_or (λ s. s.info) (section_of_kind f sht_gnu_verneed) 0

-- all auxiliary entries of a file, in order
abbrev pub file_entries : List ℕ → List Entry
file_entries f = entries_of (need_table f) (need_strings f) (need_count f)

-- the version and the file for a version index, if an auxiliary entry has it
unfoldable pub need_with : List ℕ → ℕ → Option PlainNeed
need_with f index = need_among (file_entries f) index

-- the fault of needs without a string table
abbrev pub strings_fault : List ℕ → Option Fault
strings_fault f = fault_if (option_map_or (λ s. is_none (strings_of f s.link)) (section_of_kind f sht_gnu_verneed) false) kind.VersionNeed 0

-- the string table, then the needs one by one
abbrev pub need_faults : List ℕ → List (Option Fault)
need_faults f = strings_fault f ∷ map (need_fault (need_table f) (need_strings f) (need_count f)) (range_with_len 0 (need_count f))

-- the first fault of the needs of a file
unfoldable pub needs_fault : List ℕ → Option Fault
needs_fault f = first (need_faults f)

-- ---- the limit

-- what an auxiliary entry counts: the bytes of its record and of its version's name
abbrev pub entry_cost : Entry → ℕ
entry_cost e = vernaux_size + length e.version

-- what the first n auxiliary entries of a need count together
abbrev pub entries_cost : List ℕ → List ℕ → ℕ → ℕ → ℕ
entries_cost table strings k n = sum_by entry_cost (first_entries table strings k n)

-- what a need counts: the bytes of its record and of its file's name, and what all its auxiliary entries count
abbrev pub need_cost : List ℕ → List ℕ → ℕ → ℕ
need_cost table strings k = verneed_size + length (unwrap_or (file_at table strings k) []) + entries_cost table strings k (entry_count table k)

-- how much the limit allows, by the bytes of the section and of its string table
abbrev pub needs_allowed_in : List ℕ → List ℕ → ℕ
needs_allowed_in table strings = allowed limit.VersionNeeds (length table + length strings)

-- The limit is that on version needs, and a need is reached with which more is counted than it allows.
abbrev pub PassesNeedsIn : List ℕ → List ℕ → ℕ → Limit → Type 0
PassesNeedsIn table strings count l =
    (l ≡ limit.VersionNeeds) × Passes (needs_allowed_in table strings) (need_fault table strings count) (need_cost table strings) count

-- what the needs of a table count together is at most what is allowed
abbrev pub AreFewNeedsIn : List ℕ → List ℕ → ℕ → Type 0
AreFewNeedsIn table strings count = counted (need_cost table strings) count ≤ needs_allowed_in table strings

-- the same for the needs of a file
unfoldable pub PassesNeeds : List ℕ → Limit → Type 0
PassesNeeds f l = PassesNeedsIn (need_table f) (need_strings f) (need_count f) l

unfoldable pub AreFewNeeds : List ℕ → Type 0
AreFewNeeds f = AreFewNeedsIn (need_table f) (need_strings f) (need_count f)
