-- Numbers, strings and padding in the bytes of a generated library. A list of bytes is a list of numbers below 256.
use Rattle.std.specs.Prelude.{ℕ, ◌-◌, ◌%◌, List, [], ◌∷◌, ◌++◌, length, replicate}
use Rattle.std.specs.List.{flat_map}
use Rattle.byteorder.specs.Endian.{little_bytes}

-- a little-endian number of n bytes
unfoldable pub number_bytes : ℕ → ℕ → List ℕ
number_bytes size number = little_bytes size number

-- a string with its terminating 0 byte
abbrev pub ended : List ℕ → List ℕ
ended text = text ++ 0 ∷ []

-- a string table: a 0 byte, then strings, each with its terminating 0 byte (System V gABI, "String Table")
unfoldable pub string_table : List (List ℕ) → List ℕ
string_table texts = 0 ∷ flat_map ended texts

-- the number of zeros from a length to the next multiple of 8
unfoldable pub filling : ℕ → ℕ
filling n = (8 - n % 8) % 8

-- bytes, and zeros up to the next multiple of 8
unfoldable pub filled : List ℕ → List ℕ
filled bytes = bytes ++ replicate (filling (length bytes)) 0
