use Rattle.library_check.proofs.RelationLemmas.{accepted_by}
use Rattle.library_check.proofs.Settled.{of_texts}
use Rattle.library_check.proofs.verifying.verify.Goals as goal

pub returns-clause-verified : goal.returns-clause-verified
returns-clause-verified c =
    of_texts c.args.old.now c.args.new.now c.args.rules.now c.args.certificate.now c.in_ok-inputs.inputs.pair.old c.in_ok-inputs.inputs.pair.new c.in_ok-inputs.inputs.rules
    c.in_ok-cert.cert c.in_ok-verified.verified c.in_ok-inputs.ensures.old c.in_ok-inputs.ensures.new c.in_ok-inputs.ensures.rules
    c.in_ok-cert.ensures.spelled c.in_ok-verified.ensures.settled

pub returns-clause-relation : goal.returns-clause-relation
returns-clause-relation c =
    accepted_by c.an_accepted_certificate_tells_such_a_relation.ensures c.args.old.now c.args.new.now c.args.rules.now c.requires.old_short c.requires.new_short c.in_ok-inputs.ensures.readable
    c.args.certificate.now c.in_ok-verified.verified (returns-clause-verified c)
