-- Values as constants and flags (DWARF 5, section 7.5.5 "Classes and Forms", classes constant and flag).
use Rattle.std.specs.Prelude.{ℕ, suc, ◌+◌, ◌-◌, ◌%◌, ◌^◌, Bool, false, Option, Some, None, pos, negsuc}
use Rattle.std.specs.Option.{option_map}
use Rattle.dwarf_forms.specs.declared.values.Value.{Value}
use Rattle.dwarf_forms.specs.declared.values.Value.TheVariants as value

-- a constant that is at least 0
abbrev pub number_of : Value → Option ℕ
number_of (value.Unsigned n) = Some n
number_of (value.Signed (pos n)) = Some n
number_of other = None

-- a constant modulo 2^64
abbrev pub word_of : Value → Option ℕ
word_of (value.Unsigned n) = Some n
word_of (value.Signed (pos n)) = Some n
word_of (value.Signed (negsuc n)) = Some (2 ^ 64 - suc n)
word_of other = None

-- how many numbers there are from 0 through a constant, modulo 2^64
abbrev pub count_up_to_of : Value → Option ℕ
count_up_to_of v = option_map (λ n. (n + 1) % 2 ^ 64) (word_of v)

-- a flag that is set
abbrev pub flag_holds : Value → Bool
flag_holds (value.Flag holds) = holds
flag_holds other = false
