-- Numbers and strings in bytes. A number is the sum of its digits, each times a power of the base. In files it is
-- little-endian, with one digit a byte (gABI, "Data Representation").
use Rattle.std.specs.Prelude.{ℕ, ◌+◌, ◌*◌, ◌^◌, ◌==◌, nat_le, Bool, if◌then◌else◌, List, length, take, drop, position, Option, Some, None}
use Rattle.std.specs.List.{sum_by, enumerate_from}
use Rattle.std.specs.Option.{option_map}

-- the number with these digits, lowest first: the sum of digit i times base ^ i
unfoldable pub number_of : ℕ → List ℕ → ℕ
number_of base digits = sum_by (λ d. d.1 * base ^ d.0) (enumerate_from 0 digits)

-- the little-endian number in the n bytes at `at`, or in those that are in bounds
unfoldable pub number : ℕ → List ℕ → ℕ → ℕ
number n bytes at = number_of 256 (take n (drop at bytes))

-- the number of n bytes at an offset, none where one of them is out of bounds
abbrev pub number_at : ℕ → List ℕ → ℕ → Option ℕ
number_at n bytes at = if nat_le (at + n) (length bytes) then Some (number n bytes at) else None

-- whether a byte ends a string
abbrev pub is_zero : ℕ → Bool
is_zero b = b == 0

-- the string at `at`: the bytes up to the first zero byte, without it (gABI, "String Table")
unfoldable pub text_at : List ℕ → ℕ → Option (List ℕ)
text_at bytes at = option_map (λ len. take len (drop at bytes)) (position is_zero (drop at bytes))
