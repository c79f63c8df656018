use Rattle.std.proofs.Common.{arith}
use Rattle.dwarf_tree.proofs.LongTextLemmas.{text_there}
use Rattle.dwarf_tree.proofs.attribute_source.value_in.Goals as goal

pub returns-in-Some : goal.returns-in-Some
returns-in-Some c =
    text_there c.args.spec.form c.args.spec.implicit c.args.asked.now.head.now.offset c.args.asked.now.head.now.end c.args.kept.offset c.args.asked.now.info.now c.args.at c.in-Some.field-0
    c.if-spec-eq-DW_FORM_string.true c.in-Some.ensures.ends (omega (arith, c.in-Some.ensures.inside, c.get-end.ensures))
