use Rattle.std.proofs.Common.{sym, ◌∙◌, ap, subst}
use Rattle.cert_text.specs.Forms.{digest_behind}
use Rattle.cert_text.specs.Faults.{digest_test}
use Rattle.cert_text.specs.Steps.{Fails}
use Rattle.cert_text.proofs.HeadLemmas.{ended, undigested, digested}
use Rattle.cert_text.proofs.head.read_digest.Goals as goal

pub returns-in-None : goal.returns-in-None
returns-in-None c = subst (Fails c.args.number (digest_test c.args.word.now) c.args.bytes.now c.args.at) (sym c.end_fault.ensures) (ended c.args.number (digest_test c.args.word.now) c.args.bytes.now c.args.at c.in-None.ensures)

pub returns-in-None-digest_behind : goal.returns-in-None-digest_behind
returns-in-None-digest_behind c =
    subst (Fails c.args.number (digest_test c.args.word.now) c.args.bytes.now c.args.at) (sym c.line_fault.ensures)
    (undigested c.args.number c.args.word.now c.args.bytes.now c.args.at _ _ c.in-Some.ensures.1 (ap (digest_behind c.args.word.now) (sym c.line_at.ensures) ∙ sym c.in-None-digest_behind.ensures))

pub returns-in-Some-digest_behind : goal.returns-in-Some-digest_behind
returns-in-Some-digest_behind c =
    digested c.args.number c.args.word.now c.args.bytes.now c.args.at _ _ c.in-Some-digest_behind.digest c.in-Some.ensures.1 (ap (digest_behind c.args.word.now) (sym c.line_at.ensures) ∙ sym c.in-Some-digest_behind.ensures)
