use Rattle.std.proofs.Common.{ap, refl, Some}
use Rattle.std.proofs.lemmas.Str.{is_utf8-from_IsUtf8}
use Rattle.suppression_text.proofs.PatternLemmas.{is_utf8-not}
use Rattle.suppression_text.proofs.judging.text_fault.Goals as goal

pub returns-in-Ok : goal.returns-in-Ok
returns-in-Ok c = rw (is_utf8-from_IsUtf8 c.args.bytes.now c.in-Ok.ensures.cases.1) refl

pub returns-in-Err : goal.returns-in-Err
returns-in-Err c = rw (is_utf8-not c.args.bytes.now c.in-Err.ensures.cases.0, ← c.in-Err.ensures.valid_len) (ap Some (rw c.valid_up_to.ensures at c.fault_from.ensures))
