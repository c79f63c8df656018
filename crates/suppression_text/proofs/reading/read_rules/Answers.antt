use Rattle.std.proofs.Common.{◌∙◌, sym, ap, map, List}
use Rattle.std.proofs.lemmas.Result.{err_from_is_err_and}
use Rattle.abi_base.specs.Outcome.{first}
use Rattle.suppression_text.specs.Lines.{forms_of}
use Rattle.suppression_text.specs.Rules.{PlainSection}
use Rattle.suppression_text.specs.Faults.{line_faults, section_fault, rule_fault}
use Rattle.suppression_text.proofs.ReadingLemmas.{refused, fault_of_line, fault_of_section}
use Rattle.suppression_text.proofs.reading.read_rules.Goals as goal

pub returns-in_err-sections-clause-fault : goal.returns-in_err-sections-clause-fault
returns-in_err-sections-clause-fault c =
    let p = err_from_is_err_and c.from_residual.result c.from_residual.ensures.1 in
    rw (p.1, p.2) (refused c.in_err-sections.field-0.0 (first (line_faults (forms_of c.args.bytes.now))) (rule_fault c.args.bytes.now) c.in_err-sections.ensures.fault
    (fault_of_line c.args.bytes.now (sym c.in_default.ensures)))

pub returns-in-Some-fault_of_sections-clause-fault : goal.returns-in-Some-fault_of_sections-clause-fault
returns-in-Some-fault_of_sections-clause-fault c =
    fault_of_section c.args.bytes.now c.in_ok-sections.sections.items (sym c.in_default.ensures) c.in_ok-sections.ensures.fault c.in_ok-sections.ensures.sections
    ∙ ap (λ (ss : List PlainSection). first (map section_fault ss)) (sym c.as_slice.ensures.value) ∙ sym c.in-Some-fault_of_sections.ensures

pub returns-clause-fault : goal.returns-clause-fault
returns-clause-fault c =
    fault_of_section c.args.bytes.now c.in_ok-sections.sections.items (sym c.in_default.ensures) c.in_ok-sections.ensures.fault c.in_ok-sections.ensures.sections
    ∙ ap (λ (ss : List PlainSection). first (map section_fault ss)) (sym c.as_slice.ensures.value) ∙ sym c.in_default-fault_of_sections.ensures
