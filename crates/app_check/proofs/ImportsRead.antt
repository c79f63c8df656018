-- The first undefined need of symbols, and the imports among them, one symbol after another.
use Rattle.std.proofs.Common.{◌≡◌, ℕ, ◌+◌, ◌<◌, List, [], ◌∷◌, ◌++◌, length, map, take, drop, get_or, Option, Some, None, refl, sym, ◌∙◌, ap, subst, arith}
use Rattle.std.proofs.lemmas.List.{append-nil, map-append}
use Rattle.std.proofs.lemmas.List.Elements.{filter_map-append}
use Rattle.std.proofs.lemmas.List.Sums.{sum_by_push}
use Rattle.abi_base.proofs.lemmas.Filtered.{SpentOn, filtered_front, spent_nothing}
use Rattle.abi_base.proofs.lemmas.Lists.{take-map_more, drop-map_more}
use Rattle.abi_base.specs.Budgets.{BudgetState, allowed, fresh}
use Rattle.abi_base.specs.declared.limit.Limit.TheVariants.{ImportNeeds}
use Rattle.abi_base.specs.declared.fault.Fault.{Fault}
use Rattle.abi_base.specs.Outcome.{first}
use Rattle.elf.specs.declared.symbols.symbol.Symbol.{Symbol}
use Rattle.elf.specs.symbols.Plain.{plain_symbol, plain_symbols}
use Rattle.elf.specs.symbols.Symbols.{PlainSymbol}
use Rattle.elf_needs.specs.Needs.{PlainNeed}
use Rattle.app_check.specs.declared.import.Import.{Import}
use Rattle.app_check.specs.Imports.{PlainImport, all_need_bytes, need_bytes, need_by, import_of, import_with, imports_with, import_fault_of, import_fault_with, index_in}
use Rattle.app_check.specs.Plain.{plain_import, plain_imports}

-- ---- the first fault

abbrev pub fault_from : (ℕ → Option PlainNeed) → List ℕ → List Symbol → ℕ → Option Fault
fault_from named indexes symbols i = first (map (import_fault_of named indexes) (drop i (plain_symbols symbols)))

pub fault_here : (named : ℕ → Option PlainNeed) (indexes : List ℕ) (symbols : List Symbol) (i : ℕ) (d : Symbol) (f : Fault) → i < length symbols
    → Some f ≡ import_fault_of named indexes (plain_symbol (get_or symbols i d)) → fault_from named indexes symbols i ≡ fault_from named indexes symbols 0 → Some f ≡ fault_from named indexes symbols 0
fault_here named indexes symbols i d f inside is so_far =
    let here : fault_from named indexes symbols i ≡ Some f = ap (λ (l : List PlainSymbol). first (map (import_fault_of named indexes) l)) (drop-map_more plain_symbol symbols i d inside) ∙ ap (λ (o : Option Fault). first (o ∷ map (import_fault_of named indexes) (drop (i + 1) (plain_symbols symbols)))) (sym is) in
    sym here ∙ so_far

pub fault_later : (named : ℕ → Option PlainNeed) (indexes : List ℕ) (symbols : List Symbol) (i : ℕ) (d : Symbol) → i < length symbols
    → None ≡ import_fault_of named indexes (plain_symbol (get_or symbols i d)) → fault_from named indexes symbols i ≡ fault_from named indexes symbols 0 → fault_from named indexes symbols (i + 1) ≡ fault_from named indexes symbols 0
fault_later named indexes symbols i d inside is so_far =
    let here : fault_from named indexes symbols i ≡ fault_from named indexes symbols (i + 1) = ap (λ (l : List PlainSymbol). first (map (import_fault_of named indexes) l)) (drop-map_more plain_symbol symbols i d inside) ∙ ap (λ (o : Option Fault). first (o ∷ map (import_fault_of named indexes) (drop (i + 1) (plain_symbols symbols)))) (sym is) in
    sym here ∙ so_far

-- ---- the imports

module _ (named : ℕ → Option PlainNeed) (indexes : List ℕ) (symbols : List Symbol) (i : ℕ) (d : Symbol) (inside : i < length symbols) where
  one_more : imports_with named indexes (take (i + 1) (plain_symbols symbols)) ≡ imports_with named indexes (take i (plain_symbols symbols)) ++ imports_with named indexes (plain_symbol (get_or symbols i d) ∷ [])
  one_more =
      ap (λ (l : List PlainSymbol). imports_with named indexes l) (take-map_more plain_symbol symbols i d inside)
      ∙ filter_map-append (import_of named indexes) (take i (plain_symbols symbols)) (plain_symbol (get_or symbols i d) ∷ [])

  -- a symbol that is an import adds it
  pub import_added : (before more : List Import) (e : Import) → Some (plain_import e) ≡ import_of named indexes (plain_symbol (get_or symbols i d)) → more ≡ before ++ e ∷ []
      → plain_imports before ≡ imports_with named indexes (take i (plain_symbols symbols)) → plain_imports more ≡ imports_with named indexes (take (i + 1) (plain_symbols symbols))
  import_added before more e is grown so_far =
      ap plain_imports grown ∙ map-append plain_import before (e ∷ [])
      ∙ ap (λ (l : List PlainImport). l ++ plain_import e ∷ []) so_far
      ∙ sym (one_more ∙ rw (← is) refl)

  -- a symbol that is none adds none
  pub import_passed : (before : List Import) → None ≡ import_of named indexes (plain_symbol (get_or symbols i d))
      → plain_imports before ≡ imports_with named indexes (take i (plain_symbols symbols)) → plain_imports before ≡ imports_with named indexes (take (i + 1) (plain_symbols symbols))
  import_passed before is so_far =
      so_far ∙ sym (one_more ∙ rw (← is) (append-nil (imports_with named indexes (take i (plain_symbols symbols)))))

-- ---- what the imports count

pub bytes_added : (before more : List Import) (e : Import) → more ≡ before ++ e ∷ []
    → all_need_bytes (plain_imports more) ≡ all_need_bytes (plain_imports before) + need_bytes (plain_import e)
bytes_added before more e grown =
    ap (λ (l : List Import). all_need_bytes (plain_imports l)) grown
    ∙ ap all_need_bytes (map-append plain_import before (e ∷ []))
    ∙ sum_by_push need_bytes (plain_imports before) (plain_import e)

pub bytes_start : (units : ℕ) (imports : List Import) (budget : BudgetState) → imports ≡ [] → budget ≡ fresh ImportNeeds units
    → SpentOn ImportNeeds units (all_need_bytes (plain_imports imports)) budget
bytes_start units imports budget none is =
    subst (λ (l : List Import). SpentOn ImportNeeds units (all_need_bytes (plain_imports l)) budget) (sym none) (spent_nothing ImportNeeds units budget is)

-- where the limit is passed at an import, all imports together count more than is allowed
pub bytes_past : (named : ℕ → Option PlainNeed) (indexes : List ℕ) (symbols : List PlainSymbol) (i units : ℕ) (before : List Import) (e : Import) (budget : BudgetState)
    → SpentOn ImportNeeds units (all_need_bytes (plain_imports before)) budget → plain_imports (before ++ e ∷ []) ≡ imports_with named indexes (take (i + 1) symbols)
    → budget.most < budget.taken + need_bytes (plain_import e) → allowed ImportNeeds units < all_need_bytes (imports_with named indexes symbols)
bytes_past named indexes symbols i units before e budget so_far read above =
    let sum : all_need_bytes (imports_with named indexes (take (i + 1) symbols)) ≡ all_need_bytes (plain_imports before) + need_bytes (plain_import e) =
    ap all_need_bytes (sym read) ∙ bytes_added before (before ++ e ∷ []) e refl in
    omega (arith, filtered_front need_bytes (import_of named indexes) symbols (i + 1), sum, above, so_far.most, so_far.taken)

-- ---- what indexes name, said in two ways

module _ (f g : ℕ → Option PlainNeed) (indexes : List ℕ) (same : (index : ℕ) → f index ≡ g index) where
  needs_same : (index : ℕ) → need_by f index ≡ need_by g index
  needs_same index = rw (same index) refl

  one_same : (s : PlainSymbol) → import_of f indexes s ≡ import_of g indexes s
  one_same s = ap (import_with s) (needs_same (index_in indexes s.number))

  pub imports_same : (symbols : List PlainSymbol) → imports_with f indexes symbols ≡ imports_with g indexes symbols
  imports_same [] = refl
  imports_same (s ∷ symbols) = rw (one_same s, imports_same symbols) refl

  fault_same : (s : PlainSymbol) → import_fault_of f indexes s ≡ import_fault_of g indexes s
  fault_same s = rw (same (index_in indexes s.number)) refl

  faults_same : (symbols : List PlainSymbol) → map (import_fault_of f indexes) symbols ≡ map (import_fault_of g indexes) symbols
  faults_same [] = refl
  faults_same (s ∷ symbols) = rw (fault_same s, faults_same symbols) refl

  pub first_same : (symbols : List PlainSymbol) → import_fault_with f indexes symbols ≡ import_fault_with g indexes symbols
  first_same symbols = ap first (faults_same symbols)
