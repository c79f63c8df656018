use Rattle.std.proofs.Common.{◌∙◌, ◌∷◌, [], length, sym, inr}
use Rattle.abi_base.specs.Outcome.{first}
use Rattle.elf.specs.symbols.Symbols.{symbols_of}
use Rattle.elf.specs.versions.Versions.{version_fault}
use Rattle.elf_needs.specs.Needs.{needs_fault}
use Rattle.app_check.specs.Imports.{imports_fault}
use Rattle.elf_needs.specs.Plain.{needed}
use Rattle.std.proofs.lemmas.Result.{err_from_is_err_and}
use Rattle.abi_base.proofs.lemmas.Outcomes.{on_limit_weaker}
use Rattle.app_check.proofs.AppFault.{imports_last, fault_is, imports_are, imports_past, no_table_fault}
use Rattle.app_check.proofs.reading.imports_among.Goals as goal

pub returns-in-Some-clause-judged : goal.returns-in-Some-clause-judged
returns-in-Some-clause-judged c =
    imports_last c.args.file.now c.args.symbols.now c.requires.symbols c.in_ok-versions.ensures.judged c.in_ok-needs.ensures.judged
    ∙ sym (c.in-Some.ensures ∙ fault_is c.args.file.now c.args.symbols.now (needed c.in_ok-needs.needs) c.in_ok-indexes.indexes c.requires.symbols c.in_ok-needs.ensures.read c.in_ok-indexes.ensures.read)

pub returns-clause-judged : goal.returns-clause-judged
returns-clause-judged c =
    imports_last c.args.file.now c.args.symbols.now c.requires.symbols c.in_ok-versions.ensures.judged c.in_ok-needs.ensures.judged
    ∙ sym (c.in_default.ensures ∙ fault_is c.args.file.now c.args.symbols.now (needed c.in_ok-needs.needs) c.in_ok-indexes.indexes c.requires.symbols c.in_ok-needs.ensures.read c.in_ok-indexes.ensures.read)

pub returns-clause-read : goal.returns-clause-read
returns-clause-read c =
    c.in_ok-imports.ensures.read ∙ imports_are c.args.file.now c.args.symbols.now (needed c.in_ok-needs.needs) c.in_ok-indexes.indexes c.requires.symbols c.in_ok-needs.ensures.read c.in_ok-indexes.ensures.read

pub returns-in_err-imports-clause-past : goal.returns-in_err-imports-clause-past
returns-in_err-imports-clause-past c =
    let p = err_from_is_err_and c.from_residual-in_err-imports.result c.from_residual-in_err-imports.ensures.1 in
    rw (p.1, p.2) (on_limit_weaker c.in_err-imports.field-0.0 _ _
    (λ l h. inr (inr (
      h.0,
      imports_past c.args.file.now c.args.symbols.now (needed c.in_ok-needs.needs) c.in_ok-indexes.indexes c.requires.symbols c.in_ok-needs.ensures.read c.in_ok-indexes.ensures.read h.1,
    )))
    c.in_err-imports.ensures.past)

pub returns-in_err-indexes-clause-judged : goal.returns-in_err-indexes-clause-judged
returns-in_err-indexes-clause-judged c =
    let p = err_from_is_err_and c.from_residual-in_err-indexes.result c.from_residual-in_err-indexes.ensures.1 in
    rw (p.1, p.2)
    (no_table_fault c.args.file.now (length c.args.symbols.now) c.in_err-indexes.field-0.0
    (first (version_fault c.args.file.now (length (symbols_of c.args.file.now)) ∷ needs_fault c.args.file.now ∷ imports_fault c.args.file.now ∷ [])) c.in_ok-versions.ensures.judged c.in_err-indexes.ensures.judged)
