use Rattle.std.proofs.Common.{sym, subst, ◌∙◌}
use Rattle.cert_text.specs.Steps.{LineFails}
use Rattle.cert_text.proofs.ReadingLemmas.{over_fails, form_fails, order_fails}
use Rattle.cert_text.proofs.reading.read_line.Goals as goal

pub returns-then-is_over : goal.returns-then-is_over
returns-then-is_over c = subst (LineFails c.args.version c.args.number c.args.before c.args.text.now) (sym c.end_fault.ensures) (over_fails c.args.version c.args.number c.args.before c.args.text.now c.if-is_over.ensures)

pub returns-in-None : goal.returns-in-None
returns-in-None c = subst (LineFails c.args.version c.args.number c.args.before c.args.text.now) (sym c.line_fault.ensures) (form_fails c.args.version c.args.number c.args.before c.args.text.now c.if-is_over.ensures (sym c.in-None.ensures))

pub returns-else-may_follow : goal.returns-else-may_follow
returns-else-may_follow c =
    subst (LineFails c.args.version c.args.number c.args.before c.args.text.now) (sym c.order_fault.ensures)
    (rw c.in-Some-before.is (order_fails c.args.version c.args.number c.in-Some-before.earlier c.args.text.now c.in-Some.line (rw c.in-Some-before.is at c.if-is_over.ensures) (sym c.in-Some.ensures) (sym c.if-may_follow.ensures)))
