use Rattle.std.proofs.Common.{◌∙◌, ℕ, Option, ap}
use Rattle.elf.specs.file.File.{viewed}
use Rattle.elf_needs.specs.Needs.{PlainNeed}
use Rattle.elf_needs.proofs.OfFile.{without, with}
use Rattle.elf_needs.proofs.reading.needs.Goals as goal

pub returns-in-None-clause-read : goal.returns-in-None-clause-read
returns-in-None-clause-read c = λ index.
    ap (λ (of : ℕ → Option PlainNeed). of index) c.of.ensures ∙ without c.args.file.now c.new.result c.in-None.ensures.found c.new.ensures.empty index

pub returns-in_ok-by_index-in-Some-strings-clause-read : goal.returns-in_ok-by_index-in-Some-strings-clause-read
returns-in_ok-by_index-in-Some-strings-clause-read c = λ index.
    ap (λ (of : ℕ → Option PlainNeed). of index) c.of-in-Some-strings.ensures
    ∙ with c.args.file.now c.in-Some-strings.strings.now (viewed c.in-Some.section) c.in_ok-by_index-in-Some-strings.by_index c.in-Some.ensures.found c.in-Some-strings.ensures.held
    c.in_ok-by_index-in-Some-strings.ensures.read index
