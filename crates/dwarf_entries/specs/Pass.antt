-- The faults in the attributes of entries, found after all entries are read, by offset.
use Rattle.std.specs.Prelude.{ℕ, ◌==◌, ◌||◌, ◌&&◌, Bool, false, if◌then◌else◌, is_none, List, [], ◌∷◌, length, map, Option, Some, None}
use Rattle.std.specs.List.{range_with_len, list_any}
use Rattle.abi_base.specs.Dwarf.{dw_tag_enumeration_type, dw_tag_structure_type, dw_tag_union_type, dw_tag_subprogram, dw_at_name, dw_at_low_pc, dw_at_abstract_origin, dw_at_specification, dw_at_type, dw_at_entry_pc, dw_at_signature}
use Rattle.abi_base.specs.declared.fault.Fault.{Fault}
use Rattle.abi_base.specs.declared.fault.FaultKind.{FaultKind}
use Rattle.abi_base.specs.declared.fault.FaultKind.TheVariants as kind
use Rattle.abi_base.specs.Fault.{fault_number}
use Rattle.abi_base.specs.Outcome.{fault_if, first}
use Rattle.dwarf_forms.specs.declared.values.Value.{Value}
use Rattle.dwarf_forms.specs.declared.values.Value.TheVariants as value
use Rattle.dwarf_text.specs.Texts.{fault_of}
use Rattle.dwarf_units.specs.Sequence.{entries_fault}
use Rattle.dwarf_tree.specs.Trees.{PlainTree, entry_at, own_of}
use Rattle.dwarf_entries.specs.Debug.{PlainSections, PlainDwarf, dwarf_of, text_at_entry, address_at_entry}
use Rattle.dwarf_entries.specs.Chains.{is_read_tag, signed_of, target_of, is_too_deep}
use Rattle.dwarf_entries.specs.Addresses.{where_there, tag_at, low_pc_of, first_range_of, variable_address_of, is_defined}

-- the fault, if it has this kind
abbrev pub of_kind : FaultKind → Option Fault → Option Fault
of_kind kind None = None
of_kind kind (Some fault) = if fault_number fault.kind == fault_number kind then Some fault else None

-- ---- the faults of strings and addresses

abbrev pub name_fault : PlainDwarf → ℕ → Option Fault
name_fault d e = fault_of (where_there (text_at_entry d e) (own_of d.tree e dw_at_name))

-- an entry_pc that is an address; a constant is not one by itself
abbrev pub entry_pc_address : Option Value → Option Value
entry_pc_address (Some (value.Address a)) = Some (value.Address a)
entry_pc_address (Some (value.AddressIndex k)) = Some (value.AddressIndex k)
entry_pc_address other = None

-- the ranges count only where there is no low_pc
abbrev pub ranges_fault : PlainDwarf → ℕ → Option Fault
ranges_fault d e = if is_none (own_of d.tree e dw_at_low_pc) then fault_of (first_range_of d e) else None

-- the faults of all attributes that determine the address of a function
abbrev pub function_faults : PlainDwarf → ℕ → List (Option Fault)
function_faults d e =
    fault_of (low_pc_of d e)
    ∷ ranges_fault d e
    ∷ fault_of (where_there (address_at_entry d e) (entry_pc_address (own_of d.tree e dw_at_entry_pc)))
    ∷ []

-- The faults of an entry's addresses: for a root that of its low_pc; for a function or a variable directly in the unit that is not
-- a declaration, those of all attributes that determine its address.
unfoldable pub address_faults : PlainDwarf → ℕ → List (Option Fault)
address_faults d e =
    if (entry_at d.tree e).depth == 0 then fault_of (low_pc_of d e) ∷ []
    else (if is_defined d.tree e
    then (if tag_at d.tree e == dw_tag_subprogram then function_faults d e else fault_of (variable_address_of d e) ∷ [])
    else [])

-- ---- the faults of references

-- whether an entry has an attribute that refers to no entry
abbrev pub refers_nowhere : PlainTree → Option Value → Bool
refers_nowhere t None = false
refers_nowhere t (Some v) = is_none (target_of t v)

-- the attributes that refer to entries
abbrev pub references : List ℕ
references = dw_at_type ∷ dw_at_abstract_origin ∷ dw_at_specification ∷ []

-- a structure, a union or an enumeration, which a type unit may define by signature
abbrev pub is_signed : ℕ → Bool
is_signed tag = tag == dw_tag_structure_type || (tag == dw_tag_union_type || tag == dw_tag_enumeration_type)

abbrev pub lacks_unit : PlainTree → Option Value → Bool
lacks_unit t (Some (value.Signature signature)) = is_none (signed_of t signature)
lacks_unit t other = false

unfoldable pub has_bad_reference : PlainTree → ℕ → Bool
has_bad_reference t e =
    list_any (λ name. refers_nowhere t (own_of t e name)) references
    || (is_signed (tag_at t e) && lacks_unit t (own_of t e dw_at_signature))

-- ---- the faults of an entry

-- its rows, in order: strings, indexes, references, the length of its chain, ranges
unfoldable pub entry_rows : PlainDwarf → ℕ → List (Option Fault)
entry_rows d e =
    of_kind kind.Text (name_fault d e)
    ∷ first (map (of_kind kind.Index) (name_fault d e ∷ address_faults d e))
    ∷ fault_if (has_bad_reference d.tree e) kind.Reference (entry_at d.tree e).offset
    ∷ fault_if (is_too_deep d.tree e) kind.OriginTooDeep (entry_at d.tree e).offset
    ∷ first (map (of_kind kind.Ranges) (address_faults d e))
    ∷ []

-- an entry's own fault: the first of its rows, if its tag is supported
unfoldable pub entry_fault : PlainDwarf → ℕ → Option Fault
entry_fault d e = if is_read_tag (tag_at d.tree e) then first (entry_rows d e) else None

-- the first fault of the entries
unfoldable pub own_fault : PlainDwarf → Option Fault
own_fault d = first (map (entry_fault d) (range_with_len 0 (length d.tree.entries)))

-- The first fault of the debug information: one in the structure of units and entries, or else in the attributes of entries.
unfoldable pub dwarf_fault : PlainSections → Option Fault
dwarf_fault s = first (entries_fault s.info s.abbrev_ ∷ own_fault (dwarf_of s) ∷ [])
