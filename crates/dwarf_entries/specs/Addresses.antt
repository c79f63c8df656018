-- The addresses of functions and variables (DWARF 5, sections 2.17 "Code Addresses, Ranges and Base Addresses", 2.18 "Entry
-- Address" and 2.6 "Location Descriptions"), and entries by address.
use Rattle.std.specs.Prelude.{ℕ, suc, ◌+◌, ◌-◌, ◌%◌, ◌^◌, ◌==◌, ◌&&◌, ◌||◌, not, Bool, false, if◌then◌else◌, List, length, take, drop, find, slice_index_or, Option, Some, None, Result, Ok, Err, pos, negsuc}
use Rattle.std.specs.List.{range_with_len}
use Rattle.abi_base.specs.Dwarf.{dw_op_addr, dw_op_addrx, dw_tag_subprogram, dw_tag_variable, dw_at_location, dw_at_low_pc, dw_at_declaration, dw_at_entry_pc, dw_at_ranges}
use Rattle.dwarf_units.specs.HeaderLayout.{dwarf_4}
use Rattle.abi_base.specs.declared.fault.Fault.{Fault}
use Rattle.abi_base.specs.Leb.{uleb_at}
use Rattle.abi_base.specs.Numbers.{number}
use Rattle.abi_base.specs.Outcome.{◌>>=◌}
use Rattle.dwarf_forms.specs.Constants.{flag_holds}
use Rattle.dwarf_forms.specs.declared.values.Value.{Value}
use Rattle.dwarf_forms.specs.declared.values.Value.TheVariants as value
use Rattle.dwarf_text.specs.declared.ranges.lists.ListAt.{ListAt}
use Rattle.dwarf_text.specs.declared.ranges.lists.ListAt.TheVariants as list_at
use Rattle.dwarf_text.specs.ranges.RangeLists.{first_address_of}
use Rattle.dwarf_tree.specs.Trees.{PlainTree, entry_at, head_at, own_of}
use Rattle.dwarf_entries.specs.Debug.{PlainDwarf, bases_of, is_assembler, address_at_entry}

abbrev pub tag_at : PlainTree → ℕ → ℕ
tag_at t e = (entry_at t e).tag

abbrev pub unit_at : PlainTree → ℕ → ℕ
unit_at t e = (entry_at t e).unit

-- what a reader gives for a value, if there is one
abbrev pub where_there : {A B : Type 0} → (A → Result B Fault) → Option A → Result (Option B) Fault
where_there read None = Ok None
where_there read (Some x) = do
  y ← read x
  Ok (Some y)

-- ---- functions

-- the address of an entry's low_pc, if it has one
unfoldable pub low_pc_of : PlainDwarf → ℕ → Result (Option ℕ) Fault
low_pc_of d e = where_there (address_at_entry d e) (own_of d.tree e dw_at_low_pc)

-- The list to which `ranges` refers: in version 4 an offset is that of a list of address pairs. A value of another class gives
-- none.
abbrev pub list_of : ℕ → Option Value → Option ListAt
list_of version (Some (value.SectionOffset place)) = Some (if version == dwarf_4 then list_at.Pairs place else list_at.Offset place)
list_of version (Some (value.RangeIndex k)) = Some (list_at.Index k)
list_of version other = None

abbrev pub first_of_list : PlainDwarf → ℕ → Option ListAt → Result (Option ℕ) Fault
first_of_list d e None = Ok None
first_of_list d e (Some list) =
    let bases = bases_of d (unit_at d.tree e) in
    first_address_of d.sections.rnglists bases.rnglists d.sections.ranges d.sections.addr bases.addr bases.low (entry_at d.tree e).offset list

-- the start of the first range of an entry's ranges, if there is one
unfoldable pub first_range_of : PlainDwarf → ℕ → Result (Option ℕ) Fault
first_range_of d e = first_of_list d e (list_of (head_at d.tree (unit_at d.tree e)).version (own_of d.tree e dw_at_ranges))

abbrev pub or_first_range : PlainDwarf → ℕ → Option ℕ → Result (Option ℕ) Fault
or_first_range d e (Some low) = Ok (Some low)
or_first_range d e None = first_range_of d e

-- the base address: low_pc, or else the start of the first range
abbrev pub base_address_of : PlainDwarf → ℕ → Result (Option ℕ) Fault
base_address_of d e = low_pc_of d e >>= or_first_range d e

-- an address plus a constant, modulo 2^64
abbrev pub moved_by : ℕ → ℕ → Result (Option ℕ) Fault → Result (Option ℕ) Fault
moved_by n wrap (Ok (Some base)) = Ok (Some ((base + n) % wrap))
moved_by n wrap other = other

-- The entry address of a function: entry_pc where that is an address; the base address plus entry_pc where that is a constant; else
-- the base address.
abbrev pub entered_at : PlainDwarf → ℕ → Option Value → Result (Option ℕ) Fault
entered_at d e (Some (value.Address a)) = where_there (address_at_entry d e) (Some (value.Address a))
entered_at d e (Some (value.AddressIndex k)) = where_there (address_at_entry d e) (Some (value.AddressIndex k))
entered_at d e (Some (value.Unsigned n)) = moved_by n (2 ^ 64) (base_address_of d e)
entered_at d e (Some (value.Signed (pos n))) = moved_by n (2 ^ 64) (base_address_of d e)
entered_at d e (Some (value.Signed (negsuc n))) = moved_by (2 ^ 64 - suc n) (2 ^ 64) (base_address_of d e)
entered_at d e other = base_address_of d e

-- ---- variables

-- an index that ends where its expression does
abbrev pub indexed_by : Option (ℕ × ℕ) → ℕ → Option Value
indexed_by None end = None
indexed_by (Some (k, after)) end = if after == end then Some (value.AddressIndex k) else None

-- The address in an expression of one operation: an address, or the index of one (DWARF 5, sections 2.5.1.1 "Literal
-- Encodings" and 7.7.1 "DWARF Expressions").
abbrev pub operand_of : List ℕ → Option Value
operand_of bytes =
    if slice_index_or bytes 0 0 == dw_op_addr && length bytes == 9 then Some (value.Address (number 8 bytes 1))
    else (if slice_index_or bytes 0 0 == dw_op_addrx then indexed_by (uleb_at bytes 1) (length bytes) else None)

-- a location that is an expression; a value of another class gives no address
abbrev pub location_of : List ℕ → Option Value → Option Value
location_of info (Some (value.Block from to)) = operand_of (take (to - from) (drop from info))
location_of info other = None

unfoldable pub variable_address_of : PlainDwarf → ℕ → Result (Option ℕ) Fault
variable_address_of d e = where_there (address_at_entry d e) (location_of d.sections.info (own_of d.tree e dw_at_location))

-- ---- entries by address

-- the address of a function's entry point or of a variable; other entries have none
unfoldable pub address_of_entry : PlainDwarf → ℕ → Result (Option ℕ) Fault
address_of_entry d e =
    if tag_at d.tree e == dw_tag_subprogram then entered_at d e (own_of d.tree e dw_at_entry_pc)
    else (if tag_at d.tree e == dw_tag_variable then variable_address_of d e else Ok None)

-- an address, or None where it has a fault
abbrev pub or_none : Result (Option ℕ) Fault → Option ℕ
or_none (Ok address) = address
or_none (Err fault) = None

abbrev pub entry_address_of : PlainDwarf → ℕ → Option ℕ
entry_address_of d e = or_none (address_of_entry d e)

-- a flag that is set
abbrev pub is_true : Option Value → Bool
is_true None = false
is_true (Some v) = flag_holds v

abbrev pub is_declared_only : PlainTree → ℕ → Bool
is_declared_only t e = is_true (own_of t e dw_at_declaration)

-- a function or a variable directly in its unit, not a declaration
unfoldable pub is_defined : PlainTree → ℕ → Bool
is_defined t e =
    (entry_at t e).depth == 1
    && ((tag_at t e == dw_tag_subprogram || tag_at t e == dw_tag_variable) && not (is_declared_only t e))

abbrev pub is_some_number : ℕ → Option ℕ → Bool
is_some_number n (Some m) = m == n
is_some_number n None = false

-- an entry is at an address: it is defined there, in a unit that is not written in assembler
unfoldable pub is_typed_at : PlainDwarf → ℕ → ℕ → Bool
is_typed_at d address e =
    is_defined d.tree e && (not (is_assembler d.tree (unit_at d.tree e)) && is_some_number address (entry_address_of d e))

-- the first entry at an address
unfoldable pub typed_of : PlainDwarf → ℕ → Option ℕ
typed_of d address = find (is_typed_at d address) (range_with_len 0 (length d.tree.entries))
