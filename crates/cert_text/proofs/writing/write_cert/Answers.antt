use Rattle.std.proofs.Common.{subst}
use Rattle.cert_text.specs.Grammar.{IsSpelled}
use Rattle.cert_text.proofs.WritingLemmas.{written}
use Rattle.cert_text.proofs.writing.write_cert.Goals as goal

pub returns-clause-spelled : goal.returns-clause-spelled
returns-clause-spelled c =
    subst (IsSpelled c.push_line.new.text.items) c.cert.view_is
    (written _ _ _ _ _ _ _ _ _ _ c.cert.invariant
    (rw c.in_ok-text.ensures.items at c.in_ok-extend_from_slice.ensures.items) c.in_ok-push_digest.ensures c.in_ok-push_digest-2.ensures c.in_ok-push_digest-3.ensures
    (rw c.as_slice.ensures at c.in_ok-push_binds.ensures) (rw c.as_slice-2.ensures at c.in_ok-push_alike_old.ensures)
    (rw c.as_slice-3.ensures at c.in_ok-push_alike_new.ensures) (rw c.as_slice-4.ensures at c.in_ok-push_pairs.ensures) c.in_ok-push_line.ensures)
