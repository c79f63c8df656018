use Rattle.std.proofs.lemmas.Str.{is_utf8-from_IsUtf8}
use Rattle.suppression_text.proofs.PatternLemmas.{is_utf8-not}
use Rattle.suppression_text.proofs.pattern.text_in.Goals as goal

pub returns-in-Ok-clause-text : goal.returns-in-Ok-clause-text
returns-in-Ok-clause-text c = (c.in-Ok.ensures.cases.0, is_utf8-from_IsUtf8 c.args.bytes.now c.in-Ok.ensures.cases.1)

pub returns-in-Err-clause-none : goal.returns-in-Err-clause-none
returns-in-Err-clause-none c = is_utf8-not c.args.bytes.now c.in-Err.ensures.cases.0
