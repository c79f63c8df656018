-- A readable file has no two exports of one name and one version.
use Rattle.std.proofs.Common.{◌≡◌, ℕ, List, [], ◌∷◌, map, length, Option, None, refl, ap}
use Rattle.elf.proofs.lemmas.Faults.{none_both}
use Rattle.abi_base.specs.declared.fault.Fault.{Fault}
use Rattle.abi_base.specs.Outcome.{first}
use Rattle.abi_types.specs.Exports.{PlainExport}
use Rattle.dwarf_entries.specs.Debug.{PlainDwarf}
use Rattle.dwarf_entries.specs.Pass.{dwarf_fault}
use Rattle.elf.specs.file.Elf.{elf_fault}
use Rattle.elf.specs.symbols.Dynamic.{dynamic_fault}
use Rattle.elf.specs.symbols.Symbols.{symbol_fault, symbols_of}
use Rattle.elf.specs.versions.Versions.{version_fault}
use Rattle.type_reach.specs.Faults.{types_fault}
use Rattle.elf_bind.specs.Exports.{export_fault, exports_with}
use Rattle.pair_compare.specs.Distinct.{name_and_version}
use Rattle.library_read.specs.Debug.{debug_of, sections_in}
use Rattle.library_read.specs.Exports.{roots_of, symbol_versions, typed, typed_exports_of, untyped_exports_of}
use Rattle.library_read.specs.Faults.{library_fault}

none_fifth : (a b c d e : Option Fault) (os : List (Option Fault)) → first (a ∷ b ∷ c ∷ d ∷ e ∷ os) ≡ None → e ≡ None
none_fifth a b c d e os is =
    let one = none_both a (b ∷ c ∷ d ∷ e ∷ os) is in
    let two = none_both b (c ∷ d ∷ e ∷ os) one.1 in
    let three = none_both c (d ∷ e ∷ os) two.1 in
    let four = none_both d (e ∷ os) three.1 in
    (none_both e os four.1).0

pub no_export_fault : (f : List ℕ) → library_fault f ≡ None → export_fault (symbols_of f) (symbol_versions f) ≡ None
unfolding library_fault
no_export_fault f is =
    none_fifth (elf_fault f) (symbol_fault f) (dynamic_fault f) (version_fault f (length (symbols_of f))) (export_fault (symbols_of f) (symbol_versions f))
    (dwarf_fault (sections_in f) ∷ types_fault (debug_of f) (roots_of f) ∷ []) is

typed_named : (d : PlainDwarf) (exports : List PlainExport) → map name_and_version (map (typed d) exports) ≡ map name_and_version exports
unfolding typed
typed_named d [] = refl
typed_named d (e ∷ exports) = ap (λ l. (e.name, e.version) ∷ l) (typed_named d exports)

pub named_alike : (f : List ℕ) → map name_and_version (typed_exports_of f) ≡ map name_and_version (exports_with (symbols_of f) (symbol_versions f))
unfolding typed_exports_of untyped_exports_of
named_alike f = typed_named (debug_of f) (untyped_exports_of f)
