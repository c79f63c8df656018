-- What a file needs, by the parts that are read.
use Rattle.std.proofs.Common.{◌≡◌, ◌<◌, ◌+◌, ◌∙◌, ℕ, true, false, List, [], ◌∷◌, ◌++◌, length, map, take, get_or, Option, Some, None, refl, sym, ap, inl, inr}
use Rattle.std.specs.Prelude.{filter, filter_map, slice_get}
use Rattle.std.specs.Option.{option_map, option_map_or}
use Rattle.std.proofs.lemmas.Option.{slice_get-map}
use Rattle.elf.specs.declared.symbols.symbol.Symbol.{Symbol}
use Rattle.elf.specs.symbols.Plain.{plain_symbol, plain_symbols}
use Rattle.std.proofs.lemmas.List.{append-nil, map-append, take_more}
use Rattle.abi_base.proofs.lemmas.Lists.{take-map_more}
use Rattle.std.proofs.lemmas.List.Elements.{filter-append}
use Rattle.abi_base.proofs.lemmas.Outcomes.{on_past_weaker}
use Rattle.abi_base.specs.declared.fault.Fault.{Fault}
use Rattle.abi_base.specs.declared.fault.Refusal.{Refusal}
use Rattle.abi_base.specs.declared.fault.Refusal.TheVariants as refusal
use Rattle.abi_base.specs.Outcome.{first, OnPast, Refuses}
use Rattle.elf.specs.file.Elf.{elf_fault}
use Rattle.elf.specs.symbols.Dynamic.{dynamic_fault}
use Rattle.elf.specs.versions.Versions.{version_fault}
use Rattle.elf.specs.symbols.Symbols.{PlainSymbol, PassesSymbols, symbol_fault, symbols_of}
use Rattle.new_needs.specs.NeededFiles.{needed_fault, needed_files, PassesNames}
use Rattle.elf_needs.specs.Needs.{PlainNeed, PassesNeeds, need_with, needs_fault}
use Rattle.new_needs.specs.Versions.{all_indexes, all_needed, needed_versions}
use Rattle.app_check.specs.declared.import.Import.{Import}
use Rattle.app_check.specs.Imports.{AppPasses, PlainImport, app_fault, imports_fault, imports_of}
use Rattle.app_check.specs.Plain.{plain_import, plain_imports}
use Rattle.new_needs.specs.declared.kept.Needed.{Needed}
use Rattle.new_needs.specs.Needed.{PlainNeeded, PlainNeeds}
use Rattle.new_needs.specs.Needs.{FilePasses, file_fault, is_strong, must_be_defined, needs_of, needs_with, strong_symbols, symbol_needed}
use Rattle.new_needs.specs.Plain.{plain_all, plain_needed}

-- ---- faults

none_first : (o : Option Fault) (os : List (Option Fault)) → first (o ∷ os) ≡ None → (o ≡ None) × (first os ≡ None)
none_first None os h = (refl, h)
none_first (Some f) os h = absurd cc

pub elf_refused : (f : List ℕ) (e : Refusal) → Refuses e (elf_fault f) → Refuses e (file_fault f)
unfolding file_fault app_fault
elf_refused f (refusal.Fault fault) h = rw h refl
elf_refused f (refusal.NoMemory cause) h = h

pub symbols_refused : (f : List ℕ) (e : Refusal) → elf_fault f ≡ None → Refuses e (symbol_fault f) → Refuses e (file_fault f)
unfolding file_fault app_fault
symbols_refused f (refusal.Fault fault) sound h = rw (sound, h) refl
symbols_refused f (refusal.NoMemory cause) sound h = h

pub app_refused : (f : List ℕ) (e : Refusal) → Refuses e (app_fault f) → Refuses e (file_fault f)
unfolding file_fault
app_refused f (refusal.Fault fault) h = rw h refl
app_refused f (refusal.NoMemory cause) h = h

no_needs_fault : (f : List ℕ) → app_fault f ≡ None → needs_fault f ≡ None
unfolding app_fault
no_needs_fault f none =
    let imports : List (Option Fault) = imports_fault f ∷ [] in
    let needs : List (Option Fault) = needs_fault f ∷ imports in
    let versions : List (Option Fault) = version_fault f (length (symbols_of f)) ∷ needs in
    let dynamic : List (Option Fault) = dynamic_fault f ∷ versions in
    let symbols : List (Option Fault) = symbol_fault f ∷ dynamic in
    let past_elf : first symbols ≡ None = (none_first (elf_fault f) symbols none).1 in
    let past_symbols : first dynamic ≡ None = (none_first (symbol_fault f) dynamic past_elf).1 in
    let past_dynamic : first versions ≡ None = (none_first (dynamic_fault f) versions past_symbols).1 in
    let past_versions : first needs ≡ None = (none_first (version_fault f (length (symbols_of f))) needs past_dynamic).1 in
    (none_first (needs_fault f) imports past_versions).0

pub needs_refused : (f : List ℕ) (e : Refusal) → app_fault f ≡ None → Refuses e (needs_fault f) → Refuses e (file_fault f)
needs_refused f (refusal.Fault fault) sound h =
    let none : needs_fault f ≡ None = no_needs_fault f sound in
    absurd cc
needs_refused f (refusal.NoMemory cause) sound h = h

pub names_refused : (f : List ℕ) (e : Refusal) → app_fault f ≡ None → Refuses e (needed_fault f) → Refuses e (file_fault f)
unfolding file_fault
names_refused f (refusal.Fault fault) sound h = rw (sound, h) refl
names_refused f (refusal.NoMemory cause) sound h = h

pub sound_file : (f : List ℕ) → app_fault f ≡ None → needed_fault f ≡ None → file_fault f ≡ None
unfolding file_fault
sound_file f app names = rw (app, names) refl

-- ---- limits

pub symbols_pass : (f : List ℕ) (e : Refusal) → OnPast e (PassesSymbols f) → OnPast e (FilePasses f)
symbols_pass f e h = on_past_weaker e (PassesSymbols f) (FilePasses f) (λ l p. inl (inl p)) h

pub app_pass : (f : List ℕ) (e : Refusal) → OnPast e (AppPasses f) → OnPast e (FilePasses f)
app_pass f e h = on_past_weaker e (AppPasses f) (FilePasses f) (λ l p. inl p) h

pub needs_pass : (f : List ℕ) (e : Refusal) → OnPast e (PassesNeeds f) → OnPast e (FilePasses f)
needs_pass f e h = on_past_weaker e (PassesNeeds f) (FilePasses f) (λ l p. inl (inr (inr (inl p)))) h

pub names_pass : (f : List ℕ) (e : Refusal) → OnPast e (PassesNames f) → OnPast e (FilePasses f)
names_pass f e h = on_past_weaker e (PassesNames f) (FilePasses f) (λ l p. inr p) h

-- ---- item by item

pub mapped_more : {X A : Type 0} (f : X → A) (g : A → PlainNeeded) (xs : List X) (i : ℕ) (d : X) (before more : List Needed) (n : Needed) → i < length xs
    → plain_all before ≡ map g (map f (take i xs)) → plain_needed n ≡ g (f (get_or xs i d)) → more ≡ before ++ n ∷ [] → plain_all more ≡ map g (map f (take (i + 1) xs))
mapped_more {X} {A} f g xs i d before more n lt so_far is grown =
    ap plain_all grown ∙ map-append plain_needed before (n ∷ []) ∙ ap (λ (l : List PlainNeeded). l ++ plain_needed n ∷ []) so_far
    ∙ ap (λ (y : PlainNeeded). map g (map f (take i xs)) ++ y ∷ []) is
    ∙ sym (ap (λ (l : List X). map g (map f l)) (take_more xs i d lt) ∙ ap (map g) (map-append f (take i xs) (get_or xs i d ∷ []))
    ∙ map-append g (map f (take i xs)) (f (get_or xs i d) ∷ []))

module _ (symbols : List PlainSymbol) (imports : List Import) (i : ℕ) (d : Import) (inside : i < length imports) where
  one_more : strong_symbols symbols (take (i + 1) (plain_imports imports)) ≡ strong_symbols symbols (take i (plain_imports imports)) ++ strong_symbols symbols (plain_import (get_or imports i d) ∷ [])
  one_more =
      ap (strong_symbols symbols) (take-map_more plain_import imports i d inside)
      ∙ ap (map symbol_needed) (filter-append (is_strong symbols) (take i (plain_imports imports)) (plain_import (get_or imports i d) ∷ []))
      ∙ map-append symbol_needed (filter (is_strong symbols) (take i (plain_imports imports))) (filter (is_strong symbols) (plain_import (get_or imports i d) ∷ []))

  -- an import that must be defined adds its symbol
  pub strong_added : (before more : List Needed) (n : Needed) → is_strong symbols (plain_import (get_or imports i d)) ≡ true → plain_needed n ≡ symbol_needed (plain_import (get_or imports i d))
      → more ≡ before ++ n ∷ [] → plain_all before ≡ strong_symbols symbols (take i (plain_imports imports)) → plain_all more ≡ strong_symbols symbols (take (i + 1) (plain_imports imports))
  strong_added before more n strong is grown so_far =
      let here : strong_symbols symbols (plain_import (get_or imports i d) ∷ []) ≡ symbol_needed (plain_import (get_or imports i d)) ∷ [] = rw strong refl in
      ap plain_all grown ∙ map-append plain_needed before (n ∷ []) ∙ ap (λ (l : List PlainNeeded). l ++ plain_needed n ∷ []) so_far
      ∙ ap (λ (y : PlainNeeded). strong_symbols symbols (take i (plain_imports imports)) ++ y ∷ []) is
      ∙ sym (one_more ∙ ap (λ (l : List PlainNeeded). strong_symbols symbols (take i (plain_imports imports)) ++ l) here)

  -- another one adds none
  pub strong_passed : (before : List Needed) → is_strong symbols (plain_import (get_or imports i d)) ≡ false
      → plain_all before ≡ strong_symbols symbols (take i (plain_imports imports)) → plain_all before ≡ strong_symbols symbols (take (i + 1) (plain_imports imports))
  strong_passed before weak so_far =
      let here : strong_symbols symbols (plain_import (get_or imports i d) ∷ []) ≡ [] = rw weak refl in
      so_far ∙ sym (one_more ∙ ap (λ (l : List PlainNeeded). strong_symbols symbols (take i (plain_imports imports)) ++ l) here ∙ append-nil (strong_symbols symbols (take i (plain_imports imports))))

-- the symbol of an import, found at its number
pub strong_at : (symbols : List Symbol) (place : ℕ) (found : Option Symbol) → found ≡ slice_get symbols place
    → option_map_or must_be_defined (option_map plain_symbol found) false ≡ option_map_or must_be_defined (slice_get (plain_symbols symbols) place) false
strong_at symbols place found is =
    ap (λ (o : Option PlainSymbol). option_map_or must_be_defined o false) (ap (option_map plain_symbol) is ∙ sym (slice_get-map plain_symbol symbols place))

-- ---- the whole

same_needs : (named other : ℕ → Option PlainNeed) → ((index : ℕ) → named index ≡ other index) → (indexes : List ℕ) → filter_map named indexes ≡ filter_map other indexes
same_needs named other same [] = refl
same_needs named other same (i ∷ indexes) = rw (same i, same_needs named other same indexes) refl

pub needs_are : (f : List ℕ) (needs : PlainNeeds) (names : List (List ℕ)) (versions : List PlainNeed) (symbols : List PlainSymbol) (imports : List PlainImport) (named : ℕ → Option PlainNeed)
    → needs ≡ needs_with names versions symbols imports → names ≡ needed_files f → versions ≡ all_needed named → ((index : ℕ) → named index ≡ need_with f index)
    → symbols ≡ symbols_of f → imports ≡ imports_of f → needs ≡ needs_of f
unfolding needs_of needed_versions
needs_are f needs names versions symbols imports named is names_are versions_are same symbols_are imports_are =
    is ∙ ap (λ (l : List (List ℕ)). needs_with l versions symbols imports) names_are
    ∙ ap (λ (l : List PlainNeed). needs_with (needed_files f) l symbols imports) (versions_are ∙ same_needs named (need_with f) same all_indexes)
    ∙ ap (λ (l : List PlainSymbol). needs_with (needed_files f) (filter_map (need_with f) all_indexes) l imports) symbols_are
    ∙ ap (needs_with (needed_files f) (filter_map (need_with f) all_indexes) (symbols_of f)) imports_are
