-- The fault and the imports of an application, by those of its parts.
use Rattle.std.proofs.Common.{◌≡◌, ◌<◌, ℕ, arith, List, [], ◌∷◌, length, Option, Some, None, refl, sym, ◌∙◌, ap}
use Rattle.std.proofs.lemmas.List.{length-map}
use Rattle.abi_base.specs.declared.fault.Fault.{Fault}
use Rattle.abi_base.specs.declared.fault.Refusal.{Refusal}
use Rattle.abi_base.specs.declared.fault.Refusal.TheVariants as refusal
use Rattle.abi_base.specs.Outcome.{Refuses, first}
use Rattle.elf.proofs.lemmas.Faults.{none_both}
use Rattle.elf.specs.declared.symbols.symbol.Symbol.{Symbol}
use Rattle.elf.specs.symbols.Plain.{plain_symbol, plain_symbols}
use Rattle.elf.specs.symbols.Symbols.{PlainSymbol, symbols_of}
use Rattle.elf.specs.versions.Definitions.{definition_faults}
use Rattle.elf.specs.versions.Versions.{table_fault, version_fault}
use Rattle.elf_needs.specs.Indexes.{indexes_of}
use Rattle.elf_needs.specs.Needs.{PlainNeed, need_with, needs_fault}
use Rattle.app_check.specs.Imports.{all_need_bytes, most_need_bytes, imports_with, import_fault_with, symbol_indexes, imports_fault, imports_of}
use Rattle.app_check.proofs.ImportsRead.{imports_same, first_same}

pub counted : (f : List ℕ) (symbols : List Symbol) → plain_symbols symbols ≡ symbols_of f → length symbols ≡ length (symbols_of f)
counted f symbols read = sym (length-map symbols plain_symbol) ∙ ap length read

last_fault : (o : Option Fault) → first (o ∷ []) ≡ o
last_fault None = refl
last_fault (Some fault) = refl

-- where versions and needs have no fault, that of the imports is the first
pub imports_last : (f : List ℕ) (symbols : List Symbol) → plain_symbols symbols ≡ symbols_of f → version_fault f (length symbols) ≡ None → needs_fault f ≡ None
    → first (version_fault f (length (symbols_of f)) ∷ needs_fault f ∷ imports_fault f ∷ []) ≡ imports_fault f
imports_last f symbols read versions needs =
    let sound : version_fault f (length (symbols_of f)) ≡ None = ap (version_fault f) (sym (counted f symbols read)) ∙ versions in
    ap (λ (o : Option Fault). first (o ∷ needs_fault f ∷ imports_fault f ∷ [])) sound
    ∙ ap (λ (o : Option Fault). first (o ∷ imports_fault f ∷ [])) needs ∙ last_fault (imports_fault f)

-- where versions have no fault, the table of indexes is not refused
pub no_table_fault : (f : List ℕ) (symbols : ℕ) (e : Refusal) (any : Option Fault) → version_fault f symbols ≡ None → Refuses e (table_fault f symbols) → Refuses e any
unfolding version_fault
no_table_fault f symbols (refusal.Fault answered) any sound refused =
    let none : None ≡ Some answered = sym (none_both (table_fault f symbols) (definition_faults f) sound).0 ∙ refused in
    cc
no_table_fault f symbols (refusal.NoMemory cause) any sound refused = refused

module _ (f : List ℕ) (symbols : List Symbol) (named : ℕ → Option PlainNeed) (indexes : List ℕ) (read : plain_symbols symbols ≡ symbols_of f) (same : (index : ℕ) → named index ≡ need_with f index) (are : indexes ≡ indexes_of f (length symbols)) where
  all_indexes : indexes ≡ symbol_indexes f
  all_indexes = are ∙ ap (indexes_of f) (counted f symbols read)

  pub fault_is : import_fault_with named indexes (plain_symbols symbols) ≡ imports_fault f
  fault_is =
      first_same named (need_with f) indexes same (plain_symbols symbols)
      ∙ ap (λ (l : List ℕ). import_fault_with (need_with f) l (plain_symbols symbols)) all_indexes
      ∙ ap (λ (l : List PlainSymbol). import_fault_with (need_with f) (symbol_indexes f) l) read

  pub imports_are : imports_with named indexes (plain_symbols symbols) ≡ imports_of f
  unfolding imports_of
  imports_are =
      imports_same named (need_with f) indexes same (plain_symbols symbols)
      ∙ ap (λ (l : List ℕ). imports_with (need_with f) l (plain_symbols symbols)) all_indexes
      ∙ ap (λ (l : List PlainSymbol). imports_with (need_with f) (symbol_indexes f) l) read

  -- where the imports of the symbols count more than is allowed, those of the file do
  pub imports_past : most_need_bytes (length (plain_symbols symbols)) < all_need_bytes (imports_with named indexes (plain_symbols symbols))
      → most_need_bytes (length (symbols_of f)) < all_need_bytes (imports_of f)
  imports_past above =
      let most : most_need_bytes (length (plain_symbols symbols)) ≡ most_need_bytes (length (symbols_of f)) = ap (λ (l : List PlainSymbol). most_need_bytes (length l)) read in
      let all : all_need_bytes (imports_with named indexes (plain_symbols symbols)) ≡ all_need_bytes (imports_of f) = ap all_need_bytes imports_are in
      omega (arith, above, most, all)
