-- The first fault of a library, by its groups.
use Rattle.std.proofs.Common.{◌≡◌, ℕ, List, [], ◌∷◌, length, Option, Some, None, refl, sym, ap, ◌∙◌}
use Rattle.elf.proofs.lemmas.Faults.{none_both}
use Rattle.abi_base.specs.declared.fault.Fault.{Fault}
use Rattle.abi_base.specs.declared.fault.Refusal.{Refusal}
use Rattle.abi_base.specs.declared.fault.Refusal.TheVariants as refusal
use Rattle.abi_base.specs.Outcome.{first, Refuses}
use Rattle.abi_types.specs.Exports.{PlainExport}
use Rattle.dwarf_entries.specs.Pass.{dwarf_fault}
use Rattle.elf.specs.file.Elf.{elf_fault}
use Rattle.elf.specs.symbols.Dynamic.{dynamic_fault}
use Rattle.elf.specs.symbols.Symbols.{symbol_fault, symbols_of}
use Rattle.elf.specs.versions.Versions.{version_fault}
use Rattle.type_reach.specs.Faults.{types_fault}
use Rattle.elf_bind.specs.Exports.{export_fault}
use Rattle.library_read.specs.Debug.{debug_of, sections_in}
use Rattle.library_read.specs.Exports.{roots_of, symbol_versions, untyped_exports_of}
use Rattle.library_read.specs.Faults.{listing_fault, debug_fault, library_fault}

grouped : (a b c d e g h : Option Fault) → first (a ∷ b ∷ c ∷ d ∷ e ∷ g ∷ h ∷ []) ≡ first (a ∷ first (b ∷ c ∷ d ∷ e ∷ []) ∷ first (g ∷ h ∷ []) ∷ [])
grouped (Some x) b c d e g h = refl
grouped None (Some x) c d e g h = refl
grouped None None (Some x) d e g h = refl
grouped None None None (Some x) e g h = refl
grouped None None None None (Some x) g h = refl
grouped None None None None None (Some x) h = refl
grouped None None None None None None (Some x) = refl
grouped None None None None None None None = refl

-- the header and sections, then what the symbols say, then the debug information
pub library_fault-is : (f : List ℕ) → library_fault f ≡ first (elf_fault f ∷ listing_fault f ∷ debug_fault f (untyped_exports_of f) ∷ [])
unfolding library_fault listing_fault debug_fault
library_fault-is f = grouped (elf_fault f) _ _ _ _ _ _

-- ---- without a fault

groups_none : (a b c d e g h : Option Fault) → first (a ∷ b ∷ c ∷ d ∷ e ∷ g ∷ h ∷ []) ≡ None → (b ≡ None) × (g ≡ None) × (h ≡ None)
groups_none a b c d e g h none =
    let file = none_both a (b ∷ c ∷ d ∷ e ∷ g ∷ h ∷ []) none in
    let symbols = none_both b (c ∷ d ∷ e ∷ g ∷ h ∷ []) file.1 in
    let table = none_both c (d ∷ e ∷ g ∷ h ∷ []) symbols.1 in
    let versions = none_both d (e ∷ g ∷ h ∷ []) table.1 in
    let exports = none_both e (g ∷ h ∷ []) versions.1 in
    let dwarf = none_both g (h ∷ []) exports.1 in
    (symbols.0, dwarf.0, (none_both h [] dwarf.1).0)

pub record HasNoFault (f : List ℕ) : Type 0 where
  pub symbols : symbol_fault f ≡ None
  pub dwarf : dwarf_fault (sections_in f) ≡ None
  pub types : types_fault (debug_of f) (roots_of f) ≡ None

pub without_fault : (f : List ℕ) → library_fault f ≡ None → HasNoFault f
unfolding library_fault
without_fault f none =
    let groups = groups_none (elf_fault f) (symbol_fault f) (dynamic_fault f) (version_fault f (length (symbols_of f))) (export_fault (symbols_of f) (symbol_versions f)) (dwarf_fault (sections_in f)) (types_fault (debug_of f) (roots_of f)) none in
    record { symbols = groups.0; dwarf = groups.1; types = groups.2 }

-- ---- what is met first

pub by_file : (f : List ℕ) (refused : Refusal) → Refuses refused (elf_fault f) → Refuses refused (library_fault f)
by_file f (refusal.Fault x) is = library_fault-is f ∙ ap (λ (o : Option Fault). first (o ∷ listing_fault f ∷ debug_fault f (untyped_exports_of f) ∷ [])) is
by_file f (refusal.NoMemory cause) is = tt

pub by_listing : (f : List ℕ) (refused : Refusal) → elf_fault f ≡ None → Refuses refused (listing_fault f) → Refuses refused (library_fault f)
by_listing f (refusal.Fault x) file is =
    library_fault-is f ∙ ap (λ (o : Option Fault). first (o ∷ listing_fault f ∷ debug_fault f (untyped_exports_of f) ∷ [])) file
    ∙ ap (λ (o : Option Fault). first (o ∷ debug_fault f (untyped_exports_of f) ∷ [])) is
by_listing f (refusal.NoMemory cause) file is = tt

debug-last : (f : List ℕ) → elf_fault f ≡ None → listing_fault f ≡ None → library_fault f ≡ first (debug_fault f (untyped_exports_of f) ∷ [])
debug-last f file listing =
    library_fault-is f ∙ ap (λ (o : Option Fault). first (o ∷ listing_fault f ∷ debug_fault f (untyped_exports_of f) ∷ [])) file
    ∙ ap (λ (o : Option Fault). first (o ∷ debug_fault f (untyped_exports_of f) ∷ [])) listing

pub by_debug : (f : List ℕ) (exports : List PlainExport) (refused : Refusal) → elf_fault f ≡ None → listing_fault f ≡ None → exports ≡ untyped_exports_of f → Refuses refused (debug_fault f exports) → Refuses refused (library_fault f)
by_debug f exports (refusal.Fault x) file listing same is =
    debug-last f file listing ∙ ap (λ (o : Option Fault). first (o ∷ [])) (ap (debug_fault f) (sym same) ∙ is)
by_debug f exports (refusal.NoMemory cause) file listing same is = tt

pub by_none : (f : List ℕ) (exports : List PlainExport) → elf_fault f ≡ None → listing_fault f ≡ None → exports ≡ untyped_exports_of f → debug_fault f exports ≡ None → library_fault f ≡ None
by_none f exports file listing same none =
    debug-last f file listing ∙ ap (λ (o : Option Fault). first (o ∷ [])) (ap (debug_fault f) (sym same) ∙ none)
