use Rattle.cert_text.proofs.NumberLemmas.{none_plain, some_read, none_parsed, none_utf8}
use Rattle.std.proofs.Common.{◌∙◌, sym}
use Rattle.cert_text.proofs.words.number.Goals as goal

pub returns-then-not-is_plain : goal.returns-then-not-is_plain
returns-then-not-is_plain c = none_plain c.args.text.now (sym c.is_plain.ensures ∙ c.if-not-is_plain.true)

pub returns-in-Err : goal.returns-in-Err
returns-in-Err c = none_utf8 c.args.text.now c.in-Err.ensures.cases.0

pub returns-in-Ok-parse : goal.returns-in-Ok-parse
returns-in-Ok-parse c = some_read c.args.text.now c.in-Ok-parse.number (sym c.is_plain.ensures ∙ c.if-not-is_plain.false) (rw c.in-Ok.ensures.cases.0 at c.in-Ok-parse.ensures.value.0)

pub returns-in-Err-parse : goal.returns-in-Err-parse
returns-in-Err-parse c = none_parsed c.args.text.now c.in-Err-parse.field-0 (rw c.in-Ok.ensures.cases.0 at c.in-Err-parse.ensures.value.0)
