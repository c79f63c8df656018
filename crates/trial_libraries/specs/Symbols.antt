-- The dynamic symbols of a generated library of n functions, and their names.
use Rattle.std.specs.Prelude.{ℕ, ◌+◌, ◌*◌, List, [], ◌∷◌, ◌++◌, length, map, replicate, codes, decimal}
use Rattle.std.specs.List.{flat_map, range_with_len}
use Rattle.trial_libraries.specs.Bytes.{number_bytes, string_table}

-- the numbers of n functions
abbrev pub numbers : ℕ → List ℕ
numbers n = range_with_len 0 n

-- the name of function i: `f`, and the number in decimal
abbrev pub function_name : ℕ → List ℕ
function_name i = codes "f" ++ decimal i

-- the names of the first n functions
abbrev pub function_names : ℕ → List (List ℕ)
function_names n = map function_name (numbers n)

-- the address of function i: each has 16 bytes, and the first one is at 4096
abbrev pub function_address : ℕ → ℕ
function_address i = 4096 + 16 * i

-- the offset of the name of function i in the string table: after the names of the functions before it
unfoldable pub name_place : ℕ → ℕ
name_place i = length (string_table (function_names i))

-- `Elf64_Sym` of function i, with the offset of its name: `st_name`, `st_info` (STB_GLOBAL, STT_FUNC), `st_other`
-- (STV_DEFAULT), `st_shndx`, `st_value` and `st_size`
unfoldable pub symbol : ℕ → ℕ → List ℕ
symbol place i = number_bytes 4 place ++ 0x12 ∷ 0 ∷ [] ++ number_bytes 2 1 ++ number_bytes 8 (function_address i) ++ number_bytes 8 16

-- the symbol of function i
abbrev pub function_symbol : ℕ → List ℕ
function_symbol i = symbol (name_place i) i

-- the symbol table: the reserved symbol 0, which is zeros, then the functions
unfoldable pub symbol_table : ℕ → List ℕ
symbol_table n = replicate 24 0 ++ flat_map function_symbol (numbers n)
