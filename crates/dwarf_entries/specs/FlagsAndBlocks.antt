-- Attributes as flags and as bytes (DWARF 5, section 7.5.5 "Classes and Forms", classes flag, block and exprloc).
use Rattle.std.specs.Prelude.{ℕ, ◌-◌, Bool, List, take, drop, Option, Some, None}
use Rattle.dwarf_forms.specs.declared.values.Value.{Value}
use Rattle.dwarf_forms.specs.declared.values.Value.TheVariants as value
use Rattle.dwarf_tree.specs.Trees.{PlainTree}
use Rattle.dwarf_entries.specs.Addresses.{is_true}
use Rattle.dwarf_entries.specs.Chains.{attribute_along}

-- a flag of an entry, its own or inherited; a value of another class does not count
abbrev pub flag_value_along : PlainTree → ℕ → ℕ → Bool
flag_value_along t e name = is_true (attribute_along t e name)

-- the bytes of a block or an expression, which are in `.debug_info`
abbrev pub block_of : List ℕ → Value → Option (List ℕ)
block_of info (value.Block from to) = Some (take (to - from) (drop from info))
block_of info other = None
