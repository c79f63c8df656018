use Rattle.std.proofs.Common.{List, ℕ, sym, subst, OnOk, IfErr}
use Rattle.commands.specs.Faults.{AreReadable, StopsAt}
use Rattle.library_check.specs.Rows.Verify.{verify_asks, verify_passes}
use Rattle.library_check.proofs.verify.VerifyCommand.judge.Goals as goal

pub returns-clause-readable : goal.returns-clause-readable
returns-clause-readable g c = subst (λ (l : List (List ℕ)). OnOk c.verify_certificate.result (AreReadable verify_asks l)) (sym c.four.ensures) c.verify_certificate.ensures.readable

pub returns-clause-stops : goal.returns-clause-stops
returns-clause-stops g c = subst (λ (l : List (List ℕ)). IfErr c.verify_certificate.result (StopsAt verify_asks verify_passes l)) (sym c.four.ensures) c.verify_certificate.ensures.stops
