-- The names of the files that a file needs, and their first fault (gABI, "Dynamic Section"). Each entry of the dynamic table with
-- the tag NEEDED, before the first one with the tag NULL, has the offset of a name in the string table.
use Rattle.std.specs.Prelude.{◌≡◌, ℕ, ◌+◌, ◌==◌, Bool, ◌&&◌, is_none, if◌then◌else◌, List, length, map, filter_map, Option, None}
use Rattle.std.specs.Borrow.{Bor}
use Rattle.std.specs.Option.{option_map_or}
use Rattle.abi_base.specs.declared.fault.Fault.{Fault}
use Rattle.abi_base.specs.declared.fault.FaultKind.TheVariants as kind
use Rattle.abi_base.specs.declared.limit.Limit.{Limit}
use Rattle.abi_base.specs.declared.limit.Limit.TheVariants as limit
use Rattle.abi_base.specs.Budgets.{allowed, Passes}
use Rattle.abi_base.specs.Elf.{dyn_size}
use Rattle.abi_base.specs.Outcome.{fault_if, first}
use Rattle.elf.specs.symbols.Dynamic.{tag_in, text_of_entry, entry_numbers, dynamic_table, dynamic_strings}

-- the tag of an entry with the name of a needed file, DT_NEEDED
abbrev pub dt_needed : ℕ
dt_needed = 1

abbrev pub is_needed : List ℕ → ℕ → Bool
is_needed table i = tag_in table i == dt_needed

-- the name at the entry with this number, if it has the tag NEEDED and the name ends in the string table
unfoldable pub needed_name : List ℕ → List ℕ → ℕ → Option (List ℕ)
needed_name table strings i = if is_needed table i then text_of_entry table strings i else None

-- the names, in the order of their entries
abbrev pub needed_in : List ℕ → List ℕ → List (List ℕ)
needed_in table strings = filter_map (needed_name table strings) (entry_numbers table)

-- the fault of a name that has no end in the string table, at its entry
unfoldable pub needed_name_fault : List ℕ → List ℕ → ℕ → Option Fault
needed_name_fault table strings i = fault_if (is_needed table i && is_none (text_of_entry table strings i)) kind.DynamicTable i

abbrev pub needed_fault_in : List ℕ → List ℕ → Option Fault
needed_fault_in table strings = first (map (needed_name_fault table strings) (entry_numbers table))

-- names of the code, without their addresses in memory
abbrev pub plain_names : List (Bor (List ℕ)) → List (List ℕ)
plain_names names = map (λ (name : Bor (List ℕ)). name.now) names

-- ---- of a file

-- the names of the files that a file needs, in the order of their entries
unfoldable pub needed_files : List ℕ → List (List ℕ)
needed_files f = needed_in (dynamic_table f) (dynamic_strings f)

-- the first fault of these names
unfoldable pub needed_fault : List ℕ → Option Fault
needed_fault f = needed_fault_in (dynamic_table f) (dynamic_strings f)

-- ---- the limit

-- what an entry counts: the bytes of its record and of its name
abbrev pub name_cost : Option (List ℕ) → ℕ
name_cost name = dyn_size + option_map_or length name 0

abbrev pub needed_cost : List ℕ → List ℕ → ℕ → ℕ
needed_cost table strings i = name_cost (needed_name table strings i)

-- how much the limit allows, by the bytes of the table and of its string table
abbrev pub names_allowed : List ℕ → List ℕ → ℕ
names_allowed table strings = allowed limit.NeededFiles (length table + length strings)

-- The limit is that on needed files, and an entry is reached with which more is counted than it allows.
abbrev pub PassesNamesIn : List ℕ → List ℕ → Limit → Type 0
PassesNamesIn table strings l =
    (l ≡ limit.NeededFiles) × Passes (names_allowed table strings) (needed_name_fault table strings) (needed_cost table strings) (length (entry_numbers table))

-- the same for a file
unfoldable pub PassesNames : List ℕ → Limit → Type 0
PassesNames f l = PassesNamesIn (dynamic_table f) (dynamic_strings f) l
