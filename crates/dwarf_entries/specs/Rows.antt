-- The rows of an entry, split as the code checks them: for most entries, which have no addresses, only the name and the references
-- are checked.
use Rattle.std.specs.Prelude.{ℕ, ◌==◌, ◌||◌, Bool, List, [], ◌∷◌, ◌++◌, map, Option}
use Rattle.abi_base.specs.declared.fault.Fault.{Fault}
use Rattle.abi_base.specs.declared.fault.FaultKind.TheVariants as kind
use Rattle.abi_base.specs.Outcome.{fault_if, first}
use Rattle.dwarf_tree.specs.Trees.{PlainTree, entry_at}
use Rattle.dwarf_entries.specs.Addresses.{is_defined}
use Rattle.dwarf_entries.specs.Chains.{is_too_deep}
use Rattle.dwarf_entries.specs.Debug.{PlainDwarf}
use Rattle.dwarf_entries.specs.Pass.{address_faults, has_bad_reference, name_fault, of_kind}

-- a root, or a function or a variable that is defined here
abbrev pub are_addresses_asked : PlainTree → ℕ → Bool
are_addresses_asked t e = (entry_at t e).depth == 0 || is_defined t e

abbrev pub name_rows : PlainDwarf → ℕ → List (Option Fault)
name_rows d e = of_kind kind.Text (name_fault d e) ∷ of_kind kind.Index (name_fault d e) ∷ []

abbrev pub reference_rows : PlainTree → ℕ → List (Option Fault)
reference_rows t e = fault_if (has_bad_reference t e) kind.Reference (entry_at t e).offset ∷ fault_if (is_too_deep t e) kind.OriginTooDeep (entry_at t e).offset ∷ []

abbrev pub rows_behind_name : PlainDwarf → ℕ → List (Option Fault)
rows_behind_name d e =
    first (map (of_kind kind.Index) (address_faults d e)) ∷ (reference_rows d.tree e ++ first (map (of_kind kind.Ranges) (address_faults d e)) ∷ [])
