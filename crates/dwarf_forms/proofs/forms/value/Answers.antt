use Rattle.std.proofs.Common.{sym, ◌∙◌, w64, FitsSigned}
use Rattle.std.proofs.lemmas.Int.{to_z-of_z}
use Rattle.dwarf_forms.proofs.FormLemmas.{value_at_is, value_at_indirect}
use Rattle.dwarf_forms.proofs.forms.value.Goals as goal

pub returns-then-spec-eq-DW_FORM_indirect-clause-read : goal.returns-then-spec-eq-DW_FORM_indirect-clause-read
returns-then-spec-eq-DW_FORM_indirect-clause-read c =
    let fits : FitsSigned w64 c.args.spec.implicit = search in
    (rw (to_z-of_z w64 c.args.spec.implicit fits) at c.indirect.ensures.read)
    ∙ sym (value_at_indirect c.args.spec.form c.args.spec.implicit c.args.unit.start c.args.unit.end c.args.entry c.args.bytes.now c.args.at c.if-spec-eq-DW_FORM_indirect.true)

pub returns-else-spec-eq-DW_FORM_indirect-clause-read : goal.returns-else-spec-eq-DW_FORM_indirect-clause-read
returns-else-spec-eq-DW_FORM_indirect-clause-read c =
    let fits : FitsSigned w64 c.args.spec.implicit = search in
    (rw (to_z-of_z w64 c.args.spec.implicit fits) at c.direct.ensures.read)
    ∙ sym (value_at_is c.args.spec.form c.args.spec.implicit c.args.unit.start c.args.unit.end c.args.entry c.args.bytes.now c.args.at c.if-spec-eq-DW_FORM_indirect.false)
