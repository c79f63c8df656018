-- How long the entries of a unit are, and units.
use Rattle.std.proofs.Common.{◌≡◌, ℕ, ◌+◌, ◌-◌, ◌*◌, ◌%◌, ◌<◌, ◌≤◌, List, [], ◌∷◌, ◌++◌, length, length-append, codes, decimal, arith, min, Bool, true, false, if◌then◌else◌, ◌==◌}
use Rattle.std.proofs.lemmas.Fmt.{length-decimal-le}
use Rattle.std.specs.List.{flat_map, range_with_len}
use Rattle.trial_libraries.specs.Bytes.{number_bytes, ended}
use Rattle.trial_libraries.specs.Symbols.{function_name, function_address}
use Rattle.trial_libraries.specs.Units.{entries, function, functions_of, int, int_place, member, parameter, parameters, pointer, pointer_place, reference, root, structure, structure_place, unit, unit_count, unit_of, units}
use Rattle.trial_libraries.specs.Abbreviations.{function_code, structure_code, member_code}
use Rattle.trial_libraries.proofs.Lengths.{length-two_bytes, length-four_bytes, length-eight_bytes}
use Rattle.trial_libraries.proofs.Ranges.{length-flat_map-range-le}

pub length-name-le : (i : ℕ) → i < 100000 → length (ended (function_name i)) ≤ 7
length-name-le i small = omega (arith, length-append (decimal i) (0 ∷ []), length-decimal-le 5 i (omega arith) (omega arith) (omega arith))

pub length-pointer : (k j : ℕ) → length (pointer k j) ≡ 6
unfolding pointer
length-pointer k j = omega (arith, length-four_bytes (structure_place k j))

pub length-member : (name : List ℕ) (type place : ℕ) → length (member name type place) ≡ length name + 7
unfolding member
length-member name type place =
    omega (arith, length-append (member_code ∷ ended name ++ reference type) (place ∷ []), length-append (member_code ∷ ended name) (reference type), length-append name (0 ∷ []), length-four_bytes type)

pub length-structure : (k j : ℕ) → length (structure k j) ≡ 27
unfolding structure
length-structure k j =
    let next = member (codes "next") (pointer_place ((j + 1) % k)) 0 in
    let value = member (codes "v") int_place 8 in
    let head : List ℕ = structure_code ∷ ended (codes "ring") ++ 16 ∷ [] in
    omega (arith, length-append (head ++ next ++ value) (0 ∷ []), length-append (head ++ next) value, length-append head next, length-member (codes "next") (pointer_place ((j + 1) % k)) 0, length-member (codes "v") int_place 8)

pub length-parameter : (type : ℕ) → length (parameter type) ≡ 5
unfolding parameter
length-parameter type = omega (arith, length-four_bytes type)

second-le : (b : Bool) → length (if b then parameter int_place else []) ≤ 5
second-le true = omega (arith, length-parameter int_place)
second-le false = omega arith

pub length-parameters-le : (i : ℕ) → length (parameters i) ≤ 10
unfolding parameters
length-parameters-le i =
    omega (arith, length-append (parameter (pointer_place 0)) (if i % 7 == 0 then parameter int_place else []), length-parameter (pointer_place 0), second-le (i % 7 == 0))

pub length-function-le : (i : ℕ) → i < 100000 → length (function i) ≤ 31
unfolding function
length-function-le i small =
    let name : List ℕ = function_code ∷ ended (function_name i) in
    let typed = name ++ reference int_place in
    let placed = typed ++ number_bytes 8 (function_address i) in
    omega (arith, length-append (placed ++ parameters i) (0 ∷ []), length-append placed (parameters i), length-append typed (number_bytes 8 (function_address i)), length-append name (reference int_place), length-name-le i small, length-four_bytes int_place, length-eight_bytes (function_address i), length-parameters-le i)

pub length-root : length root ≡ 3
length-root = omega (arith, length-two_bytes 0x000c)

-- the entries of a unit of a library that may be made
pub length-entries-le : (n k u : ℕ) → n ≤ 50000 → k ≤ 3 → length (entries n k u) ≤ 3210
unfolding entries
length-entries-le n k u few short =
    let pointers = flat_map (pointer k) (range_with_len 0 k) in
    let structures = flat_map (structure k) (range_with_len 0 k) in
    let functions = flat_map function (functions_of n u) in
    let first = root ++ int in
    let pointers-le = length-flat_map-range-le (pointer k) 6 0 k (λ i low high. omega (arith, length-pointer k i)) in
    let structures-le = length-flat_map-range-le (structure k) 27 0 k (λ i low high. omega (arith, length-structure k i)) in
    let functions-le = length-flat_map-range-le function 31 (100 * u) (min 100 (n - 100 * u)) (λ i low high. length-function-le i (omega arith)) in
    omega (arith, length-append (first ++ pointers ++ structures ++ functions) (0 ∷ []), length-append (first ++ pointers ++ structures) functions, length-append (first ++ pointers) structures, length-append first pointers, length-append root int, length-root, pointers-le, structures-le, functions-le)

pub length-unit : (body : List ℕ) → length (unit_of body) ≡ 12 + length body
unfolding unit_of
length-unit body =
    let number = number_bytes 4 (8 + length body) in
    let version = number ++ number_bytes 2 5 in
    let kind : List ℕ = version ++ 1 ∷ 8 ∷ [] in
    omega (arith, length-append (kind ++ number_bytes 4 0) body, length-append kind (number_bytes 4 0), length-append version (1 ∷ 8 ∷ []), length-append number (number_bytes 2 5), length-four_bytes (8 + length body), length-two_bytes 5, length-four_bytes 0)

pub length-units-le : (n k : ℕ) → n ≤ 50000 → k ≤ 3 → length (units n k) ≤ 1611000
unfolding units
length-units-le n k few short =
    let one = length-flat_map-range-le (unit n k) 3222 0 (unit_count n) (λ u low high. omega (arith, length-unit (entries n k u), length-entries-le n k u few short)) in
    omega arith
