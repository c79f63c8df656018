-- None so far.
use Rattle.std.proofs.Common.{◌≡◌, false, take}
use Rattle.std.specs.List.{list_any}
use Rattle.abi_base.specs.Dwarf.{dw_at_const_value}
use Rattle.dwarf_entries.specs.Chains.{attribute_along}
use Rattle.type_notes.specs.Texts.{is_negative}
use Rattle.type_notes.proofs.sign.is_some_negative.Given as goal

abbrev pub invariant-loop-k : goal.invariant-loop-k
invariant-loop-k l = list_any (λ c. is_negative (attribute_along l.dwarf.tree c dw_at_const_value)) (take l.k l.enumerators) ≡ false
