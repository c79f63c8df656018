-- A limit that one part of the reading passes is one that the whole passes.
use Rattle.std.proofs.Common.{ℕ, List, inl, inr}
use Rattle.abi_base.specs.declared.fault.Refusal.{Refusal}
use Rattle.abi_base.specs.Outcome.{OnPast}
use Rattle.abi_base.proofs.lemmas.Outcomes.{on_past_weaker}
use Rattle.elf.specs.symbols.Symbols.{PassesSymbols, symbols_of}
use Rattle.elf.specs.versions.Definitions.{PassesDefinitions}
use Rattle.elf_bind.specs.Exports.{PassesExports}
use Rattle.elf_needs.specs.Needs.{PassesNeeds}
use Rattle.app_check.specs.Imports.{AppPasses, ImportsPass}
use Rattle.app_check.specs.Links.{symbol_versions, ExportsPass, LibraryPasses, OfferedPass, LinksPass}

pub definitions_pass : (f : List ℕ) (e : Refusal) → OnPast e (PassesDefinitions f) → OnPast e (ImportsPass f)
definitions_pass f e h = on_past_weaker e (PassesDefinitions f) (ImportsPass f) (λ l p. inl p) h

pub needs_pass : (f : List ℕ) (e : Refusal) → OnPast e (PassesNeeds f) → OnPast e (ImportsPass f)
needs_pass f e h = on_past_weaker e (PassesNeeds f) (ImportsPass f) (λ l p. inr (inl p)) h

pub symbols_pass : (f : List ℕ) (e : Refusal) → OnPast e (PassesSymbols f) → OnPast e (AppPasses f)
symbols_pass f e h = on_past_weaker e (PassesSymbols f) (AppPasses f) (λ l p. inl p) h

pub imports_pass : (f : List ℕ) (e : Refusal) → OnPast e (ImportsPass f) → OnPast e (AppPasses f)
imports_pass f e h = on_past_weaker e (ImportsPass f) (AppPasses f) (λ l p. inr p) h

-- reading indexes passes no limit
pub indexes_pass : (f : List ℕ) (e : Refusal) → OnPast e (λ l. ⊥) → OnPast e (ImportsPass f)
indexes_pass f e h = on_past_weaker e (λ l. ⊥) (ImportsPass f) (λ l p. absurd p) h

-- ---- a library

pub versions_pass : (f : List ℕ) (e : Refusal) → OnPast e (PassesDefinitions f) → OnPast e (ExportsPass f)
versions_pass f e h = on_past_weaker e (PassesDefinitions f) (ExportsPass f) (λ l p. inl p) h

pub exports_pass : (f : List ℕ) (e : Refusal) → OnPast e (PassesExports (symbols_of f) (symbol_versions f)) → OnPast e (ExportsPass f)
exports_pass f e h = on_past_weaker e (PassesExports (symbols_of f) (symbol_versions f)) (ExportsPass f) (λ l p. inr p) h

pub library_symbols_pass : (f : List ℕ) (e : Refusal) → OnPast e (PassesSymbols f) → OnPast e (LibraryPasses f)
library_symbols_pass f e h = on_past_weaker e (PassesSymbols f) (LibraryPasses f) (λ l p. inl p) h

pub library_exports_pass : (f : List ℕ) (e : Refusal) → OnPast e (ExportsPass f) → OnPast e (LibraryPasses f)
library_exports_pass f e h = on_past_weaker e (ExportsPass f) (LibraryPasses f) (λ l p. inr p) h

-- ---- an application and a library

pub library_pass : (app library : List ℕ) (e : Refusal) → OnPast e (LibraryPasses library) → OnPast e (OfferedPass app library)
library_pass app library e h = on_past_weaker e (LibraryPasses library) (OfferedPass app library) (λ l p. inl p) h

pub app_symbols_pass : (app library : List ℕ) (e : Refusal) → OnPast e (PassesSymbols app) → OnPast e (LinksPass app library)
app_symbols_pass app library e h = on_past_weaker e (PassesSymbols app) (LinksPass app library) (λ l p. inl (inl p)) h

pub app_imports_pass : (app library : List ℕ) (e : Refusal) → OnPast e (ImportsPass app) → OnPast e (LinksPass app library)
app_imports_pass app library e h = on_past_weaker e (ImportsPass app) (LinksPass app library) (λ l p. inl (inr p)) h

pub offered_pass : (app library : List ℕ) (e : Refusal) → OnPast e (OfferedPass app library) → OnPast e (LinksPass app library)
offered_pass app library e h = on_past_weaker e (OfferedPass app library) (LinksPass app library) (λ l p. inr p) h
