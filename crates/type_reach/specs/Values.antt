-- Attribute values as numbers (DWARF 5, section 7.5.5 "Classes and Forms", class constant).
use Rattle.std.specs.Prelude.{ℕ, ◌^◌, ◌==◌, nat_lt, Bool, true, false, if◌then◌else◌, is_some, List, length, slice_index_or, Option, Some, None}
use Rattle.std.specs.Option.{unwrap_or}
use Rattle.abi_base.specs.Dwarf.{dw_op_plus_uconst}
use Rattle.abi_base.specs.Leb.{uleb_at}
use Rattle.dwarf_forms.specs.declared.values.Value.{Value}
use Rattle.dwarf_forms.specs.Constants.{number_of, word_of, count_up_to_of}
use Rattle.dwarf_tree.specs.Trees.{PlainTree}
use Rattle.dwarf_entries.specs.Chains.{attribute_along}
use Rattle.dwarf_entries.specs.FlagsAndBlocks.{block_of}

-- a nonnegative constant
abbrev pub natural_of : Option Value → Option ℕ
natural_of None = None
natural_of (Some v) = number_of v

-- a constant, modulo 2^64
abbrev pub wrapped_of : Option Value → Option ℕ
wrapped_of None = None
wrapped_of (Some v) = word_of v

-- how many numbers there are from 0 through a constant, modulo 2^64
abbrev pub counted_to : Option Value → Option ℕ
counted_to None = None
counted_to (Some v) = count_up_to_of v

-- the operand, if the expression ends after it
abbrev pub whole_operand : Option (ℕ × ℕ) → ℕ → Option ℕ
whole_operand None end = None
whole_operand (Some (n, after)) end = if after == end then Some n else None

-- the addend of an expression that is a single operation (DWARF 5, section 2.5.1.4 "Arithmetic and Logical Operations")
abbrev pub added_by : List ℕ → Option ℕ
added_by bytes = if slice_index_or bytes 0 0 == dw_op_plus_uconst then whole_operand (uleb_at bytes 1) (length bytes) else None

abbrev pub place_by : Option (List ℕ) → Option ℕ → Option ℕ
place_by (Some bytes) constant = added_by bytes
place_by None constant = constant

-- an offset in bytes: a constant, or the addend of an expression
abbrev pub place_of : List ℕ → Option Value → Option ℕ
place_of info None = None
place_of info (Some v) = place_by (block_of info v) (number_of v)

-- whether an entry has an attribute, its own or inherited
unfoldable pub is_there : PlainTree → ℕ → ℕ → Bool
is_there t e name = is_some (attribute_along t e name)

-- the number in an attribute of an entry, its own or inherited, or 0 where it has none
unfoldable pub number_at : PlainTree → ℕ → ℕ → ℕ
number_at t e name = unwrap_or (natural_of (attribute_along t e name)) 0

-- ---- numbers in use must be small: from 0 to 2^63 - 1

abbrev pub is_small : Option ℕ → Bool
is_small None = false
is_small (Some n) = nat_lt n (2 ^ 63)

-- an attribute is missing, or is such a number
abbrev pub is_small_if_there : (Option Value → Option ℕ) → Option Value → Bool
is_small_if_there read None = true
is_small_if_there read (Some v) = is_small (read (Some v))
