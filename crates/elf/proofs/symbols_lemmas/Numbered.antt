-- The number of a symbol is its place, and the symbols fill a table without a fault.
use Rattle.std.proofs.Common.{◌≡◌, ℕ, ◌+◌, ◌*◌, ◌/◌, ◌%◌, ◌<◌, zero, suc, false, List, [], ◌∷◌, length, map, Option, Some, None, refl, sym, ◌∙◌, ap, arith}
use Rattle.std.specs.Prelude.{is_none, unwrap_or}
use Rattle.std.specs.List.{range_with_len}
use Rattle.std.specs.Option.{option_map_or}
use Rattle.std.proofs.lemmas.List.FromFn.{length-map-range_with_len}
use Rattle.std.proofs.lemmas.Bool.Decides.{nat_tests}
use Rattle.abi_base.specs.declared.fault.FaultKind.TheVariants as kind
use Rattle.abi_base.specs.Outcome.{first, fault_if}
use Rattle.abi_base.proofs.lemmas.Outcomes.{none_at, fault_if-none}
use Rattle.elf.proofs.lemmas.Faults.{none_both}
use Rattle.elf.specs.file.Elf.{SectionView, section_of_kind}
use Rattle.abi_base.specs.Elf.{sht_dynsym, sym_size}
use Rattle.elf.specs.symbols.Tables.{is_table_bad}
use Rattle.elf.specs.declared.symbols.symbol.Symbol.{Symbol}
use Rattle.elf.specs.symbols.Plain.{plain_symbols}
use Rattle.elf.specs.symbols.Symbols.{name_in, symbol_in, symbols_in, symbols_of, symbol_table, symbol_strings, symbol_numbers, symbol_name_fault, symbol_fault}

numbers_from : (table strings : List ℕ) (a n : ℕ) → map (λ s. s.number) (map (symbol_in table strings) (range_with_len a n)) ≡ range_with_len a n
unfolding symbol_in
numbers_from table strings a zero = refl
numbers_from table strings a (suc n) = ap (λ (l : List ℕ). a ∷ l) (numbers_from table strings (a + 1) n)

pub numbered_in : (table strings : List ℕ) → map (λ s. s.number) (symbols_in table strings) ≡ range_with_len 0 (length (symbols_in table strings))
numbered_in table strings = rw (length-map-range_with_len (symbol_in table strings) 0 (length table / sym_size)) (numbers_from table strings 0 (length table / sym_size))

length_plain : (symbols : List Symbol) → length (plain_symbols symbols) ≡ length symbols
length_plain [] = refl
length_plain (s ∷ symbols) = ap suc (length_plain symbols)

pub numbered : (table strings : List ℕ) (symbols : List Symbol) → plain_symbols symbols ≡ symbols_in table strings
    → map (λ s. s.number) (plain_symbols symbols) ≡ range_with_len 0 (length symbols)
numbered table strings symbols read =
    let n : map (λ s. s.number) (plain_symbols symbols) ≡ range_with_len 0 (length (plain_symbols symbols)) = rw read (numbered_in table strings) in
    rw (length_plain symbols) at n

pub length_read : (table strings : List ℕ) (number : ℕ) (symbols : List Symbol) → plain_symbols symbols ≡ map (symbol_in table strings) (range_with_len 0 number) → length symbols ≡ number
length_read table strings number symbols read = sym (length_plain symbols) ∙ ap length read ∙ length-map-range_with_len (symbol_in table strings) 0 number

-- ---- without a fault

record Faultless (f : List ℕ) : Type 0 where
  pub table : option_map_or (is_table_bad sym_size f) (section_of_kind f sht_dynsym) false ≡ false
  pub names : first (map (symbol_name_fault (symbol_table f) (symbol_strings f)) (symbol_numbers (symbol_table f))) ≡ None

faultless : (f : List ℕ) → symbol_fault f ≡ None → Faultless f
unfolding symbol_fault
faultless f none =
    let bad = option_map_or (is_table_bad sym_size f) (section_of_kind f sht_dynsym) false in
    let names = map (symbol_name_fault (symbol_table f) (symbol_strings f)) (symbol_numbers (symbol_table f)) in
    let rest = (none_both (fault_if (is_none (section_of_kind f sht_dynsym)) kind.NoDynamicSymbols 0) (fault_if bad kind.SymbolTable 0 ∷ names) none).1 in
    let each = none_both (fault_if bad kind.SymbolTable 0) names rest in
    record { table = fault_if-none bad kind.SymbolTable 0 each.0; names = each.1 }

whole_entries : (f : List ℕ) (o : Option SectionView) → option_map_or (is_table_bad sym_size f) o false ≡ false → length (option_map_or (λ s. s.bytes) o []) % sym_size ≡ 0
whole_entries f None good = refl
whole_entries f (Some s) good = grind (arith, nat_tests, good)

pub whole : (f : List ℕ) → symbol_fault f ≡ None → sym_size * length (symbols_of f) ≡ length (symbol_table f)
unfolding symbols_of
whole f none =
    let entries : length (symbol_table f) % sym_size ≡ 0 = whole_entries f (section_of_kind f sht_dynsym) (faultless f none).table in
    rw (length-map-range_with_len (symbol_in (symbol_table f) (symbol_strings f)) 0 (length (symbol_table f) / sym_size)) (omega (arith, entries))

some_of : (o : Option (List ℕ)) → is_none o ≡ false → o ≡ Some (unwrap_or o [])
some_of None h = absurd cc
some_of (Some name) h = refl

pub named : (f : List ℕ) (i : ℕ) → symbol_fault f ≡ None → i < length (symbols_of f)
    → name_in (symbol_table f) (symbol_strings f) i ≡ Some (symbol_in (symbol_table f) (symbol_strings f) i).name
unfolding symbols_of symbol_name_fault symbol_in
named f i none lt =
    let within : i < length (symbol_table f) / sym_size = rw (length-map-range_with_len (symbol_in (symbol_table f) (symbol_strings f)) 0 (length (symbol_table f) / sym_size)) at lt in
    let free : symbol_name_fault (symbol_table f) (symbol_strings f) i ≡ None = none_at (symbol_name_fault (symbol_table f) (symbol_strings f)) (length (symbol_table f) / sym_size) i (faultless f none).names within in
    some_of _ (fault_if-none _ kind.SymbolTable i free)
