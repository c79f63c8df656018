-- How long a made library is.
use Rattle.std.proofs.Common.{◌≡◌, ℕ, ◌+◌, ◌≤◌, List, [], ◌++◌, length, length-append, refl, arith}
use Rattle.std.specs.List.{flat_map}
use Rattle.abi_base.specs.Limits.{input_limit}
use Rattle.trial_libraries.specs.declared.making.Side.{Side}
use Rattle.trial_libraries.specs.declared.making.Side.TheVariants.{Old, New}
use Rattle.trial_libraries.specs.Abbreviations.{abbreviations}
use Rattle.trial_libraries.specs.Bytes.{filled, string_table}
use Rattle.trial_libraries.specs.Libraries.{contents_of, file_header, file_kind, file_of, file_places, file_sizes, library, section_header, section_names, section_place, section_table}
use Rattle.trial_libraries.specs.Symbols.{function_names, symbol_table}
use Rattle.trial_libraries.specs.Units.{ring_length, units}
use Rattle.trial_libraries.proofs.Lengths.{length-two_bytes, length-four_bytes, length-eight_bytes, length-filled-le}
use Rattle.trial_libraries.proofs.SymbolSteps.{length-names-le, length-symbols-le}
use Rattle.trial_libraries.proofs.UnitLengths.{length-units-le}

length-file_header : (table : ℕ) → length (file_header table) ≡ 64
unfolding file_header file_kind file_places file_sizes
length-file_header table = simp (length-append, length-two_bytes, length-four_bytes, length-eight_bytes) refl

length-section_header : (name type place size link info entry_size : ℕ) → length (section_header name type place size link info entry_size) ≡ 64
unfolding section_header
length-section_header name type place size link info entry_size = simp (length-append, length-four_bytes, length-eight_bytes) refl

length-section_table : (contents : List (List ℕ)) → length (section_table contents) ≡ 384
unfolding section_table
length-section_table contents = simp (length-append, length-section_header) refl

length-section_names : length (string_table section_names) ≡ 53
unfolding string_table
length-section_names = refl

length-contents-le : (symbols names info : List ℕ) → length (flat_map filled (contents_of symbols names info)) ≤ length symbols + length names + length info + 154
length-contents-le symbols names info =
    let last = filled (string_table section_names) ++ [] in
    let fourth = filled info ++ last in
    let third = filled abbreviations ++ fourth in
    let second = filled names ++ third in
    omega (arith, length-append (filled symbols) second, length-append (filled names) third, length-append (filled abbreviations) fourth, length-append (filled info) last, length-append (filled (string_table section_names)) [], length-filled-le symbols, length-filled-le names, length-filled-le abbreviations, length-filled-le info, length-filled-le (string_table section_names), length-section_names)

length-file-le : (symbols names info : List ℕ) → length (file_of (contents_of symbols names info)) ≤ length symbols + length names + length info + 602
unfolding file_of
length-file-le symbols names info =
    let contents = contents_of symbols names info in
    let header = file_header (section_place contents 6) in
    omega (arith, length-append (header ++ flat_map filled contents) (section_table contents), length-append header (flat_map filled contents), length-file_header (section_place contents 6), length-section_table contents, length-contents-le symbols names info)

ring-le : (side : Side) → ring_length side ≤ 3
ring-le Old = omega arith
ring-le New = omega arith

pub length-library-le : (n : ℕ) (side : Side) → n ≤ 50000 → length (library n side) ≤ input_limit
unfolding library
length-library-le n side few =
    omega (arith, length-file-le (symbol_table n) (string_table (function_names n)) (units n (ring_length side)), length-symbols-le n, length-names-le n few, length-units-le n (ring_length side) few (ring-le side))
