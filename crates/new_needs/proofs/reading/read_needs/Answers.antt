use Rattle.std.proofs.Common.{ℕ, List, ◌∙◌, sym, ap, subst}
use Rattle.std.proofs.lemmas.Result.{err_from_is_err_and}
use Rattle.abi_base.specs.Outcome.{Refuses}
use Rattle.elf.specs.symbols.Plain.{plain_symbols}
use Rattle.elf.specs.symbols.Symbols.{symbol_fault, symbols_of}
use Rattle.elf_needs.specs.Needs.{need_with, needs_fault}
use Rattle.elf_needs.specs.Plain.{needed}
use Rattle.app_check.specs.Plain.{plain_imports}
use Rattle.new_needs.specs.NeededFiles.{needed_fault, needed_files, plain_names}
use Rattle.new_needs.specs.Plain.{plain_needs}
use Rattle.new_needs.specs.Versions.{plain_versions}
use Rattle.new_needs.proofs.ReadLemmas.{app_refused, elf_refused, names_refused, needs_are, needs_refused, sound_file, symbols_refused}
use Rattle.new_needs.proofs.reading.read_needs.Goals as goal

pub returns-in_err-file-clause-judged : goal.returns-in_err-file-clause-judged
returns-in_err-file-clause-judged c =
    let p = err_from_is_err_and c.from_residual.result c.from_residual.ensures.1 in
    rw (p.1, p.2) (elf_refused c.args.bytes.now c.in_err-file.field-0.0 c.in_err-file.ensures.judged)

pub returns-in_err-symbols-clause-judged : goal.returns-in_err-symbols-clause-judged
returns-in_err-symbols-clause-judged c =
    let p = err_from_is_err_and c.from_residual-in_err-symbols.result c.from_residual-in_err-symbols.ensures.1 in
    rw (p.1, p.2) (symbols_refused c.args.bytes.now c.in_err-symbols.field-0.0 c.in_ok-file.ensures.judged
    (subst (λ (f : List ℕ). Refuses c.in_err-symbols.field-0.0 (symbol_fault f)) c.in_ok-file.ensures.held c.in_err-symbols.ensures.judged))

pub returns-in_err-imports-clause-judged : goal.returns-in_err-imports-clause-judged
returns-in_err-imports-clause-judged c =
    let p = err_from_is_err_and c.from_residual-in_err-imports.result c.from_residual-in_err-imports.ensures.1 in
    rw (p.1, p.2) (app_refused c.args.bytes.now c.in_err-imports.field-0.0 c.in_err-imports.ensures.judged)

pub returns-in_err-by_index-clause-judged : goal.returns-in_err-by_index-clause-judged
returns-in_err-by_index-clause-judged c =
    let p = err_from_is_err_and c.from_residual-in_err-by_index.result c.from_residual-in_err-by_index.ensures.1 in
    rw (p.1, p.2) (needs_refused c.args.bytes.now c.in_err-by_index.field-0.0 c.in_ok-imports.ensures.judged
    (subst (λ (f : List ℕ). Refuses c.in_err-by_index.field-0.0 (needs_fault f)) c.in_ok-file.ensures.held c.in_err-by_index.ensures.judged))

pub returns-in_err-names-clause-judged : goal.returns-in_err-names-clause-judged
returns-in_err-names-clause-judged c =
    let p = err_from_is_err_and c.from_residual-in_err-names.result c.from_residual-in_err-names.ensures.1 in
    rw (p.1, p.2) (names_refused c.args.bytes.now c.in_err-names.field-0.0 c.in_ok-imports.ensures.judged
    (subst (λ (f : List ℕ). Refuses c.in_err-names.field-0.0 (needed_fault f)) c.in_ok-file.ensures.held c.in_err-names.ensures.judged))

pub returns-clause-judged : goal.returns-clause-judged
returns-clause-judged c = sound_file c.args.bytes.now c.in_ok-imports.ensures.judged (ap needed_fault (sym c.in_ok-file.ensures.held) ∙ c.in_ok-names.ensures.judged)

pub returns-clause-read : goal.returns-clause-read
returns-clause-read c =
    needs_are c.args.bytes.now (plain_needs c.in_ok-needs.needs) (plain_names c.deref.result.now) (plain_versions c.deref-2.result.now) (plain_symbols c.deref-3.result.now)
    (plain_imports c.deref-4.result.now) (needed c.in_ok-by_index.by_index) c.in_ok-needs.ensures.read
    (ap plain_names c.deref.ensures.value ∙ c.in_ok-names.ensures.read ∙ ap needed_files c.in_ok-file.ensures.held)
    (ap plain_versions c.deref-2.ensures.value ∙ c.in_ok-versions.ensures.ok)
    (λ index. c.in_ok-by_index.ensures.read index ∙ ap (λ (f : List ℕ). need_with f index) c.in_ok-file.ensures.held)
    (ap plain_symbols c.deref-3.ensures.value ∙ c.in_ok-symbols.ensures.read ∙ ap symbols_of c.in_ok-file.ensures.held)
    (ap plain_imports c.deref-4.ensures.value ∙ c.in_ok-imports.ensures.read)
