-- The debug units of a generated library. Each has a ring of structures, and functions that take a pointer into it.
use Rattle.std.specs.Prelude.{◌≡◌, ℕ, ◌+◌, ◌-◌, ◌*◌, ◌/◌, ◌%◌, ◌==◌, min, if◌then◌else◌, List, [], ◌∷◌, ◌++◌, length, codes}
use Rattle.std.specs.List.{flat_map, range_with_len}
use Rattle.abi_base.specs.Dwarf.{dw_lang_c99, dw_ate_signed, dw_ut_compile}
use Rattle.trial_libraries.specs.declared.making.Side.{Side}
use Rattle.trial_libraries.specs.declared.making.Side.TheVariants.{Old, New}
use Rattle.trial_libraries.specs.Abbreviations.{unit_code, base_code, pointer_code, structure_code, member_code, function_code, parameter_code}
use Rattle.trial_libraries.specs.Bytes.{number_bytes, ended}
use Rattle.trial_libraries.specs.Symbols.{function_name, function_address}

-- the number of structures in a ring
abbrev pub ring_length : Side → ℕ
ring_length Old = 3
ring_length New = 2

-- ---- offsets of entries in their unit, from its header on

-- the header has 12 bytes, and the root 3
abbrev pub int_place : ℕ
int_place = 15

-- `int` has 7 bytes, and a pointer 6
abbrev pub pointer_place : ℕ → ℕ
pointer_place j = 22 + 6 * j

-- the structures of a ring of k follow its k pointers; the entries of a structure and its members have 27 bytes
abbrev pub structure_place : ℕ → ℕ → ℕ
structure_place k j = 22 + 6 * k + 27 * j

-- ---- entries

-- a reference to the entry at an offset in the same unit
abbrev pub reference : ℕ → List ℕ
reference place = number_bytes 4 place

abbrev pub root : List ℕ
root = unit_code ∷ number_bytes 2 dw_lang_c99

-- `int`, of 4 bytes
abbrev pub int : List ℕ
int = base_code ∷ 4 ∷ dw_ate_signed ∷ ended (codes "int")

-- pointer j of a ring of k leads to structure j
unfoldable pub pointer : ℕ → ℕ → List ℕ
pointer k j = pointer_code ∷ 8 ∷ reference (structure_place k j)

-- a member of a structure
unfoldable pub member : List ℕ → ℕ → ℕ → List ℕ
member name type place = member_code ∷ ended name ++ reference type ++ place ∷ []

-- structure j of a ring of k, with a size of 16: its member `next` at 0 points to the next structure, and `v` at 8 is an `int`
unfoldable pub structure : ℕ → ℕ → List ℕ
structure k j = structure_code ∷ ended (codes "ring") ++ 16 ∷ [] ++ member (codes "next") (pointer_place ((j + 1) % k)) 0 ++ member (codes "v") int_place 8 ++ 0 ∷ []

-- a parameter with a type
unfoldable pub parameter : ℕ → List ℕ
parameter type = parameter_code ∷ reference type

-- the parameters of function i: pointer 0, and an `int` where i is a multiple of 7
unfoldable pub parameters : ℕ → List ℕ
parameters i = parameter (pointer_place 0) ++ (if i % 7 == 0 then parameter int_place else [])

-- function i, which returns an `int`
unfoldable pub function : ℕ → List ℕ
function i = function_code ∷ ended (function_name i) ++ reference int_place ++ number_bytes 8 (function_address i) ++ parameters i ++ 0 ∷ []

-- ---- units

-- the functions of unit u: 100 u to 100 u + 99, those below n
abbrev pub functions_of : ℕ → ℕ → List ℕ
functions_of n u = range_with_len (100 * u) (min 100 (n - 100 * u))

-- the entries of unit u, whose ring has k structures
unfoldable pub entries : ℕ → ℕ → ℕ → List ℕ
entries n k u = root ++ int ++ flat_map (pointer k) (range_with_len 0 k) ++ flat_map (structure k) (range_with_len 0 k) ++ flat_map function (functions_of n u) ++ 0 ∷ []

-- a compilation unit: its length, which does not count itself, the version, the unit type, the address size, the abbreviation
-- offset, and its entries (DWARF 5, section 7.5.1.1 "Full and Partial Compilation Unit Headers")
unfoldable pub unit_of : List ℕ → List ℕ
unit_of body = number_bytes 4 (8 + length body) ++ number_bytes 2 5 ++ dw_ut_compile ∷ 8 ∷ [] ++ number_bytes 4 0 ++ body

-- unit u of a library of n functions, whose rings have k structures
abbrev pub unit : ℕ → ℕ → ℕ → List ℕ
unit n k u = unit_of (entries n k u)

-- the number of units for n functions, 100 each except the last
abbrev pub unit_count : ℕ → ℕ
unit_count n = (n + 99) / 100

-- all units
unfoldable pub units : ℕ → ℕ → List ℕ
units n k = flat_map (unit n k) (range_with_len 0 (unit_count n))

-- the bytes have an entry at an offset
pub record HasAt (bytes : List ℕ) (place : ℕ) (entry : List ℕ) : Type 0 where
  pub before : List ℕ
  pub behind : List ℕ
  pub is : bytes ≡ before ++ entry ++ behind
  pub at : length before ≡ place
