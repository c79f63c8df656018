-- The string table of the names of functions, and the symbols, as they grow.
use Rattle.std.proofs.Common.{◌≡◌, ℕ, ◌+◌, ◌*◌, ◌≤◌, List, [], ◌∷◌, ◌++◌, length, replicate, zero-add, length-append, refl, sym, ap, ◌∙◌, arith}
use Rattle.std.proofs.lemmas.List.{flat_map_more}
use Rattle.std.proofs.lemmas.List.Folds.{flat_map-map}
use Rattle.std.proofs.lemmas.List.FromFn.{map-range_with_len_more}
use Rattle.std.specs.List.{flat_map}
use Rattle.trial_libraries.specs.Bytes.{ended, string_table, number_bytes}
use Rattle.trial_libraries.specs.Symbols.{function_name, function_names, function_symbol, name_place, numbers, symbol, symbol_table, function_address}
use Rattle.trial_libraries.proofs.Lengths.{length-two_bytes, length-four_bytes, length-eight_bytes}
use Rattle.trial_libraries.proofs.Ranges.{length-flat_map-range-le, pieces_more}
use Rattle.trial_libraries.proofs.UnitLengths.{length-name-le}

-- the table of no name is its first byte
pub no_names : string_table (function_names 0) ≡ 0 ∷ []
unfolding string_table
no_names = refl

-- one more name
pub names_more : (names : List ℕ) (i j : ℕ) → names ≡ string_table (function_names i) → j ≡ i + 1 → names ++ ended (function_name i) ≡ string_table (function_names j)
unfolding string_table
names_more names i j are next =
    let more : function_names j ≡ function_names i ++ function_name i ∷ [] = ap function_names next ∙ map-range_with_len_more function_name 0 i i (zero-add i) in
    ap (λ (xs : List ℕ). xs ++ ended (function_name i)) are ∙ flat_map_more ended (0 ∷ []) (function_names i) (function_name i) ∙ ap string_table (sym more)

-- one more symbol, whose name comes last in the table of names
pub symbols_more : (symbols names : List ℕ) (i j : ℕ) → symbols ≡ symbol_table i → names ≡ string_table (function_names i) → j ≡ i + 1 → symbols ++ symbol (length names) i ≡ symbol_table j
unfolding symbol_table name_place
symbols_more symbols names i j are named next =
    ap (λ (xs : List ℕ). symbols ++ symbol (length xs) i) named ∙ pieces_more function_symbol (replicate 24 0) symbols 0 i j i are (zero-add i) next

-- the names of functions that may be made
pub length-names-le : (i : ℕ) → i ≤ 50000 → length (string_table (function_names i)) ≤ 1 + 7 * i
unfolding string_table
length-names-le i few =
    let named = length-flat_map-range-le (λ j. ended (function_name j)) 7 0 i (λ j low high. length-name-le j (omega arith)) in
    omega (arith, ap length (flat_map-map ended function_name (numbers i)), named)

length-symbol : (place i : ℕ) → length (symbol place i) ≡ 24
unfolding symbol
length-symbol place i =
    let named : List ℕ = number_bytes 4 place ++ 0x12 ∷ 0 ∷ [] in
    let placed = named ++ number_bytes 2 1 in
    let valued = placed ++ number_bytes 8 (function_address i) in
    omega (arith, length-append valued (number_bytes 8 16), length-append placed (number_bytes 8 (function_address i)), length-append named (number_bytes 2 1), length-append (number_bytes 4 place) (0x12 ∷ 0 ∷ []), length-four_bytes place, length-two_bytes 1, length-eight_bytes (function_address i), length-eight_bytes 16)

pub length-symbols-le : (n : ℕ) → length (symbol_table n) ≤ 24 + 24 * n
unfolding symbol_table
length-symbols-le n =
    let symbols = length-flat_map-range-le function_symbol 24 0 n (λ i low high. omega (arith, length-symbol (name_place i) i)) in
    omega (arith, length-append (replicate 24 0) (flat_map function_symbol (numbers n)), symbols)

-- no symbol but the reserved one
pub no_symbols : replicate 24 0 ≡ symbol_table 0
unfolding symbol_table
no_symbols = refl
