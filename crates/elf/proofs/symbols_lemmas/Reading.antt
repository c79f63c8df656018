-- Reading the symbols of a table one by one.
use Rattle.std.proofs.Common.{◌≡◌, ℕ, ◌+◌, ◌<◌, List, ◌∷◌, [], ◌++◌, map, None, sym, ◌∙◌, ap, arith}
use Rattle.std.specs.List.{range_with_len}
use Rattle.std.proofs.lemmas.List.{map-append}
use Rattle.std.proofs.lemmas.List.FromFn.{map-range_with_len_more}
use Rattle.abi_base.specs.Outcome.{first}
use Rattle.abi_base.proofs.lemmas.Outcomes.{first_from, first_from-step}
use Rattle.elf.specs.declared.symbols.symbol.Symbol.{Symbol}
use Rattle.elf.specs.symbols.Plain.{plain_symbol, plain_symbols}
use Rattle.elf.specs.symbols.Symbols.{PlainSymbol, symbol_in, symbol_name_fault, symbol_numbers}

-- the symbols before a number were read, and none of them has a fault
pub record ReadBefore (table strings : List ℕ) (number count : ℕ) (symbols : List Symbol) : Type 0 where
  pub read : plain_symbols symbols ≡ map (symbol_in table strings) (range_with_len 0 number)
  pub judged : first_from (symbol_name_fault table strings) number count ≡ first (map (symbol_name_fault table strings) (symbol_numbers table))

pub read_more : (table strings : List ℕ) (number count : ℕ) (symbols more : List Symbol) (symbol : Symbol) → ReadBefore table strings number count symbols → number < count
    → symbol_name_fault table strings number ≡ None → plain_symbol symbol ≡ symbol_in table strings number → more ≡ symbols ++ symbol ∷ [] → ReadBefore table strings (number + 1) count more
read_more table strings number count symbols more symbol so_far lt none is grown = record {
  read = ap plain_symbols grown ∙ map-append plain_symbol symbols (symbol ∷ [])
      ∙ ap (λ (l : List PlainSymbol). l ++ plain_symbol symbol ∷ []) so_far.read
      ∙ ap (λ (s : PlainSymbol). map (symbol_in table strings) (range_with_len 0 number) ++ s ∷ []) is
      ∙ sym (map-range_with_len_more (symbol_in table strings) 0 number number (omega arith));
  judged = sym (first_from-step (symbol_name_fault table strings) number count lt none) ∙ so_far.judged;
}
