-- The first undefined version of symbols, and the exports among them, one symbol after another.
use Rattle.std.proofs.Common.{◌≡◌, ℕ, ◌+◌, ◌<◌, List, [], ◌∷◌, ◌++◌, length, map, take, drop, get_or, Option, Some, None, refl, sym, ◌∙◌, ap}
use Rattle.std.specs.Option.{option_or}
use Rattle.std.proofs.lemmas.List.{append-nil, map-append}
use Rattle.std.proofs.lemmas.List.Elements.{filter_map-append}
use Rattle.abi_base.proofs.lemmas.Lists.{take-map_more, drop-map_more}
use Rattle.abi_base.proofs.lemmas.Outcomes.{first-append}
use Rattle.abi_base.specs.declared.fault.Fault.{Fault}
use Rattle.abi_base.specs.Outcome.{first}
use Rattle.abi_types.specs.declared.export.Export.{Export}
use Rattle.abi_types.specs.Exports.{PlainExport}
use Rattle.abi_types.specs.Plain.{plain_export, plain_exports}
use Rattle.elf.specs.declared.symbols.symbol.Symbol.{Symbol}
use Rattle.elf.specs.symbols.Plain.{plain_symbol, plain_symbols}
use Rattle.elf.specs.symbols.Symbols.{PlainSymbol}
use Rattle.elf.specs.versions.Versions.{PlainVersion, version_in}
use Rattle.elf_bind.specs.Exports.{duplicate_faults, export_fault, export_of, exports_with, version_fault_of}

-- ---- the first undefined version

abbrev pub fault_from : List (Option PlainVersion) → List Symbol → ℕ → Option Fault
fault_from versions symbols i = first (map (version_fault_of versions) (drop i (plain_symbols symbols)))

pub fault_here : (versions : List (Option PlainVersion)) (symbols : List Symbol) (i : ℕ) (d : Symbol) (f : Fault) → i < length symbols
    → Some f ≡ version_fault_of versions (plain_symbol (get_or symbols i d)) → fault_from versions symbols i ≡ fault_from versions symbols 0 → Some f ≡ fault_from versions symbols 0
fault_here versions symbols i d f inside is so_far =
    let here : fault_from versions symbols i ≡ Some f = ap (λ (l : List PlainSymbol). first (map (version_fault_of versions) l)) (drop-map_more plain_symbol symbols i d inside) ∙ ap (λ (o : Option Fault). first (o ∷ map (version_fault_of versions) (drop (i + 1) (plain_symbols symbols)))) (sym is) in
    sym here ∙ so_far

pub fault_later : (versions : List (Option PlainVersion)) (symbols : List Symbol) (i : ℕ) (d : Symbol) → i < length symbols
    → None ≡ version_fault_of versions (plain_symbol (get_or symbols i d)) → fault_from versions symbols i ≡ fault_from versions symbols 0 → fault_from versions symbols (i + 1) ≡ fault_from versions symbols 0
fault_later versions symbols i d inside is so_far =
    let here : fault_from versions symbols i ≡ fault_from versions symbols (i + 1) = ap (λ (l : List PlainSymbol). first (map (version_fault_of versions) l)) (drop-map_more plain_symbol symbols i d inside) ∙ ap (λ (o : Option Fault). first (o ∷ map (version_fault_of versions) (drop (i + 1) (plain_symbols symbols)))) (sym is) in
    sym here ∙ so_far

-- ---- the exports

-- what stands for a symbol past the end
abbrev pub none_symbol : Symbol
none_symbol = record { number = 0; name = record { ref_ptr = (0, 0); now = [] }; binding = 0; kind = 0; visibility = 0; section = 0; value = 0; size = 0 }

module _ (versions : List (Option PlainVersion)) (symbols : List Symbol) (i : ℕ) (d : Symbol) (inside : i < length symbols) where
  export_at : PlainSymbol → Option PlainExport
  export_at s = export_of s (version_in versions s.number)

  one_more : exports_with (take (i + 1) (plain_symbols symbols)) versions ≡ exports_with (take i (plain_symbols symbols)) versions ++ exports_with (plain_symbol (get_or symbols i d) ∷ []) versions
  one_more =
      ap (λ (l : List PlainSymbol). exports_with l versions) (take-map_more plain_symbol symbols i d inside)
      ∙ filter_map-append (λ (s : PlainSymbol). export_of s (version_in versions s.number)) (take i (plain_symbols symbols)) (plain_symbol (get_or symbols i d) ∷ [])

  -- a symbol that is an export adds it
  pub export_added : (before more : List Export) (e : Export) → Some (plain_export e) ≡ export_of (plain_symbol (get_or symbols i d)) (version_in versions (get_or symbols i d).number) → more ≡ before ++ e ∷ []
      → plain_exports before ≡ exports_with (take i (plain_symbols symbols)) versions → plain_exports more ≡ exports_with (take (i + 1) (plain_symbols symbols)) versions
  export_added before more e is grown so_far =
      ap plain_exports grown ∙ map-append plain_export before (e ∷ [])
      ∙ ap (λ (l : List PlainExport). l ++ plain_export e ∷ []) so_far
      ∙ sym (one_more ∙ rw (← is) refl)

  -- a symbol that is none adds none
  pub export_passed : (before : List Export) → None ≡ export_of (plain_symbol (get_or symbols i d)) (version_in versions (get_or symbols i d).number)
      → plain_exports before ≡ exports_with (take i (plain_symbols symbols)) versions → plain_exports before ≡ exports_with (take (i + 1) (plain_symbols symbols)) versions
  export_passed before is so_far =
      so_far ∙ sym (one_more ∙ rw (← is) (append-nil (exports_with (take i (plain_symbols symbols)) versions)))

-- ---- the fault of all

pub faulty_version : (symbols : List PlainSymbol) (versions : List (Option PlainVersion)) (f : Fault) → Some f ≡ first (map (version_fault_of versions) symbols) → export_fault symbols versions ≡ Some f
unfolding export_fault
faulty_version symbols versions f is =
    let others = duplicate_faults [] (exports_with symbols versions) in
    first-append (map (version_fault_of versions) symbols) others ∙ ap (λ (o : Option Fault). option_or o (first others)) (sym is)

pub sound_versions : (symbols : List PlainSymbol) (versions : List (Option PlainVersion)) (exports : List PlainExport) (o : Option Fault) → None ≡ first (map (version_fault_of versions) symbols)
    → exports ≡ exports_with symbols versions → o ≡ first (duplicate_faults [] exports) → export_fault symbols versions ≡ o
unfolding export_fault
sound_versions symbols versions exports o none read is =
    let others = duplicate_faults [] (exports_with symbols versions) in
    first-append (map (version_fault_of versions) symbols) others ∙ ap (λ (p : Option Fault). option_or p (first others)) (sym none)
    ∙ ap (λ (l : List PlainExport). first (duplicate_faults [] l)) (sym read) ∙ sym is
