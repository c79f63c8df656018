-- LEB128 numbers (DWARF 5, section 7.6 "Variable Length Data"): seven bits a byte, the lowest first. The last byte is the
-- first one below 128.
use Rattle.std.specs.Prelude.{ℕ, ◌+◌, ◌-◌, ◌^◌, ◌%◌, ℤ, pos, ◌-ℤ◌, nat_lt, nat_le, Bool, if◌then◌else◌, List, take, drop, map, position, slice_index, Option, Some, None}
use Rattle.std.specs.Option.{option_map}
use Rattle.abi_base.specs.Numbers.{number_of}

-- whether a byte ends a LEB128
abbrev pub is_last : ℕ → Bool
is_last b = nat_lt b 128

-- the length in bytes of the LEB128 at `at`: it ends with the first byte below 128, which is one of the first ten
unfoldable pub leb_length : List ℕ → ℕ → Option ℕ
leb_length bytes at = option_map (λ more. more + 1) (position is_last (take 10 (drop at bytes)))

-- the low seven bits of each byte
abbrev pub low_digits : List ℕ → List ℕ
low_digits bytes = map (λ b. b % 128) bytes

-- the sum of the digits of the first n bytes
abbrev pub leb_sum : List ℕ → ℕ → ℕ → ℕ
leb_sum bytes at n = number_of 128 (low_digits (take n (drop at bytes)))

abbrev pub uleb_of_length : List ℕ → ℕ → Option ℕ → Option (ℕ × ℕ)
uleb_of_length bytes at None = None
uleb_of_length bytes at (Some n) = if nat_lt (leb_sum bytes at n) (2 ^ 64) then Some (leb_sum bytes at n, at + n) else None

-- The unsigned LEB128 at `at`, and the offset after it. It must be below 2^64.
unfoldable pub uleb_at : List ℕ → ℕ → Option (ℕ × ℕ)
uleb_at bytes at = uleb_of_length bytes at (leb_length bytes at)

-- The sum of n digits as a signed number: less 128 ^ n where the last byte is 64 or more. It must fit 64 bits.
abbrev pub signed_sum : ℕ → ℕ → ℕ → Option ℤ
signed_sum last n value =
    if nat_le 64 last
    then (if nat_le (128 ^ n) (value + 2 ^ 63) then Some (pos value -ℤ pos (128 ^ n)) else None)
    else (if nat_lt value (2 ^ 63) then Some (pos value) else None)

abbrev pub sleb_of_length : List ℕ → ℕ → Option ℕ → Option (ℤ × ℕ)
sleb_of_length bytes at None = None
sleb_of_length bytes at (Some n) =
    option_map (λ value. (value, at + n)) (signed_sum (slice_index bytes (at + n - 1)) n (leb_sum bytes at n))

-- the signed LEB128 at `at`, and the offset after it
unfoldable pub sleb_at : List ℕ → ℕ → Option (ℤ × ℕ)
sleb_at bytes at = sleb_of_length bytes at (leb_length bytes at)
