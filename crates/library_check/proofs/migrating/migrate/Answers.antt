use Rattle.library_check.proofs.MigrationLemmas.{of_texts}
use Rattle.library_check.proofs.migrating.migrate.Goals as goal

pub returns-clause-said : goal.returns-clause-said
returns-clause-said c =
    of_texts c.args.old.now c.args.new.now c.args.rules.now c.args.certificate.now c.in_ok-inputs.inputs.pair.old c.in_ok-inputs.inputs.pair.new c.in_ok-inputs.inputs.rules
    c.in_ok-cert.cert c.in_ok-judgement.judgement.verdict c.in_ok-judgement.judgement.untyped c.in_ok-judgement.judgement.text.items
    c.in_ok-inputs.ensures.old c.in_ok-inputs.ensures.new c.in_ok-inputs.ensures.rules
    c.in_ok-cert.ensures.spelled c.in_ok-judgement.ensures.settled c.in_ok-judgement.ensures.unremarked
