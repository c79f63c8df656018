use Rattle.std.proofs.Common.{sym, subst, true, false}
use Rattle.cert_text.specs.Faults.{answer_test}
use Rattle.cert_text.specs.Steps.{Fails}
use Rattle.cert_text.proofs.HeadLemmas.{ended, refused, answered, compared}
use Rattle.cert_text.proofs.head.read_answer.Goals as goal

pub returns-in-None : goal.returns-in-None
returns-in-None c = subst (Fails 1 (answer_test c.args.version) c.args.bytes.now 0) (sym c.end_fault.ensures) (ended 1 (answer_test c.args.version) c.args.bytes.now 0 c.in-None.ensures)

pub returns-then-is_same : goal.returns-then-is_same
returns-then-is_same c = answered c.args.version c.args.bytes.now _ _ c.in-Some.ensures.1 (compared true _ _ _ _ c.line_at.ensures c.answer.ensures c.if-is_same.ensures)

pub returns-else-is_same : goal.returns-else-is_same
returns-else-is_same c =
    subst (Fails 1 (answer_test c.args.version) c.args.bytes.now 0) (sym c.line_fault.ensures)
    (refused 1 (answer_test c.args.version) c.args.bytes.now 0 _ _ c.in-Some.ensures.1 (compared false _ _ _ _ c.line_at.ensures c.answer.ensures c.if-is_same.ensures))
