use Rattle.std.proofs.Common.{◌∙◌, Some, sym, ap}
use Rattle.explain.proofs.NameLemmas.{no_text, text_is}
use Rattle.explain.proofs.tags.text_of.Goals as goal

pub returns-in-Ok : goal.returns-in-Ok
returns-in-Ok c = ap Some c.in-Ok.ensures.cases.0 ∙ sym (text_is c.args.bytes.now c.in-Ok.ensures.cases.1)

pub returns-in-Err : goal.returns-in-Err
returns-in-Err c = sym (no_text c.args.bytes.now c.in-Err.ensures.cases.0)
