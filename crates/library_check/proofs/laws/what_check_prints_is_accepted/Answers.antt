use Rattle.std.proofs.Common.{◌≡◌, [], ◌∷◌, None}
use Rattle.commands.proofs.lemmas.Stops.{readable_stops}
use Rattle.library_check.specs.Checks.{sides_of}
use Rattle.library_check.specs.Rows.Verify.{verify_asks, verify_passes}
use Rattle.library_check.specs.Verifications.{certificate_fault}
use Rattle.library_check.proofs.Verdicts.{accepted}
use Rattle.library_check.proofs.laws.what_check_prints_is_accepted.Goals as goal

pub returns-clause-readable : goal.returns-clause-readable
returns-clause-readable c = λ old new rules text is. c.what_is_spelled_has_no_fault.ensures text is.cert is.spelled

pub returns-clause-accepted : goal.returns-clause-accepted
returns-clause-accepted c = λ old new rules text is. accepted (sides_of old new rules) text is

pub returns-clause-alone : goal.returns-clause-alone
returns-clause-alone c = λ old new rules text said is verified.
    c.a_verification_has_one_answer.ensures old new rules text said None verified (is.proved.compatible, accepted (sides_of old new rules) text is)

pub returns-clause-memory : goal.returns-clause-memory
returns-clause-memory c = λ old new rules text stop readable is stops.
    let faultless : certificate_fault text ≡ None = c.what_is_spelled_has_no_fault.ensures text is.cert is.spelled in
    readable_stops verify_asks verify_passes (old ∷ new ∷ rules ∷ text ∷ []) (readable.0, (readable.1.0, (readable.1.1.0, (faultless, tt)))) stop stops
