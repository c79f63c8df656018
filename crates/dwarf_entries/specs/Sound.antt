-- The properties of entries without a fault.
use Rattle.std.specs.Prelude.{◌≡◌, ◌<◌, ℕ, false, length, Option, None, IfSome, IsSome, IsOk}
use Rattle.abi_base.specs.Dwarf.{dw_at_name, dw_at_abstract_origin, dw_at_specification, dw_at_type}
use Rattle.dwarf_forms.specs.declared.values.Value.{Value}
use Rattle.dwarf_tree.specs.Trees.{PlainTree, own_of}
use Rattle.dwarf_entries.specs.Chains.{is_too_deep, target_of}
use Rattle.dwarf_entries.specs.Debug.{PlainDwarf, text_at_entry}
use Rattle.dwarf_entries.specs.Pass.{entry_fault}

abbrev pub AreFaultless : PlainDwarf → Type 0
AreFaultless d = (e : ℕ) → e < length d.tree.entries → entry_fault d e ≡ None

-- if there is a value, it refers to an entry
abbrev pub RefersThere : PlainTree → Option Value → Type 0
RefersThere t value = IfSome value (λ v. IsSome (target_of t v))

-- An entry's own name is a string, the entries to which it refers exist, and its chain has no more links than the limit.
pub record IsSound (d : PlainDwarf) (e : ℕ) : Type 0 where
  pub name : IfSome (own_of d.tree e dw_at_name) (λ v. IsOk (text_at_entry d e v))
  pub type : RefersThere d.tree (own_of d.tree e dw_at_type)
  pub abstract_origin : RefersThere d.tree (own_of d.tree e dw_at_abstract_origin)
  pub specification : RefersThere d.tree (own_of d.tree e dw_at_specification)
  pub chain : is_too_deep d.tree e ≡ false
