-- The dynamic table of a file, its soname, and the first fault of the table (gABI, "Dynamic Section"). The table is the
-- first section of type DYNAMIC, and its link is the index of its string table.
use Rattle.std.specs.Prelude.{ℕ, ◌≡◌, ◌≢◌, ◌<◌, ◌≤◌, ◌+◌, ◌*◌, ◌/◌, ◌==◌, Bool, false, not, is_none, List, [], ◌∷◌, length, take_while, find, Option, unwrap_or, option_and_then}
use Rattle.std.specs.List.{range_with_len}
use Rattle.std.specs.Option.{option_map_or}
use Rattle.abi_base.specs.declared.fault.Fault.{Fault}
use Rattle.abi_base.specs.declared.fault.FaultKind.TheVariants as kind
use Rattle.abi_base.specs.Numbers.{number, text_at}
use Rattle.abi_base.specs.Outcome.{fault_if, first}
use Rattle.elf.specs.file.Elf.{section_of_kind, strings_of}
use Rattle.elf.specs.symbols.Tables.{is_table_bad}
use Rattle.abi_base.specs.Elf.{sht_dynamic, dyn_size, d_tag, d_val, dt_null, dt_soname}

-- the tag and the value of the entry with this number
unfoldable pub tag_in : List ℕ → ℕ → ℕ
tag_in table i = number 8 table (dyn_size * i + d_tag)

unfoldable pub value_in : List ℕ → ℕ → ℕ
value_in table i = number 8 table (dyn_size * i + d_val)

-- whether the entry is not the end of the table
abbrev pub is_used : List ℕ → ℕ → Bool
is_used table i = not (tag_in table i == dt_null)

abbrev pub is_soname : List ℕ → ℕ → Bool
is_soname table i = tag_in table i == dt_soname

-- the numbers of the entries before the first one with tag NULL, or of all where there is none
abbrev pub entry_numbers : List ℕ → List ℕ
entry_numbers table = take_while (is_used table) (range_with_len 0 (length table / dyn_size))

-- the number of the first entry with tag SONAME
abbrev pub soname_entry : List ℕ → Option ℕ
soname_entry table = find (is_soname table) (entry_numbers table)

-- Entry i has the tag SONAME. No earlier entry has this tag or ends the table.
pub record IsFirstSoname (table : List ℕ) (i : ℕ) : Type 0 where
  pub inside : dyn_size * (i + 1) ≤ length table
  pub tagged : tag_in table i ≡ dt_soname
  pub first_one : (j : ℕ) → j < i → tag_in table j ≢ dt_soname
  pub before_end : (j : ℕ) → j < i → tag_in table j ≢ dt_null

-- ---- of a file

-- the contents of the dynamic table and of its string table, empty where there is none
abbrev pub dynamic_table : List ℕ → List ℕ
dynamic_table f = option_map_or (λ s. s.bytes) (section_of_kind f sht_dynamic) []

abbrev pub dynamic_strings : List ℕ → List ℕ
dynamic_strings f = unwrap_or (option_and_then (λ s. strings_of f s.link) (section_of_kind f sht_dynamic)) []

-- the string at the offset that an entry's value gives
abbrev pub text_of_entry : List ℕ → List ℕ → ℕ → Option (List ℕ)
text_of_entry table strings i = text_at strings (value_in table i)

-- the soname of a file, if it has one
unfoldable pub soname_of : List ℕ → Option (List ℕ)
soname_of f = option_and_then (text_of_entry (dynamic_table f) (dynamic_strings f)) (soname_entry (dynamic_table f))

-- the fault of a soname that has no end in the string table
unfoldable pub soname_fault : List ℕ → List ℕ → ℕ → Option Fault
soname_fault table strings i = fault_if (is_none (text_of_entry table strings i)) kind.DynamicTable i

-- a malformed table, then a fault of the soname, at its entry
abbrev pub dynamic_faults : List ℕ → List (Option Fault)
dynamic_faults f =
    fault_if (option_map_or (is_table_bad dyn_size f) (section_of_kind f sht_dynamic) false) kind.DynamicTable 0
    ∷ option_and_then (soname_fault (dynamic_table f) (dynamic_strings f)) (soname_entry (dynamic_table f))
    ∷ []

-- the first fault of the dynamic table
unfoldable pub dynamic_fault : List ℕ → Option Fault
dynamic_fault f = first (dynamic_faults f)
