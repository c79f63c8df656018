use Rattle.library_check.proofs.ChainLemmas.{composed_for}
use Rattle.library_check.proofs.composing.join_accepted.Goals as goal

pub returns-in_ok-written-in-Ok-clause-joined : goal.returns-in_ok-written-in-Ok-clause-joined
returns-in_ok-written-in-Ok-clause-joined c =
    composed_for c.marks_of_nothing_are_alike.ensures c.what_is_accepted_keeps_all.ensures c.an_accepted_certificate_is_a_proof.ensures
    c.args.libraries.now.first c.args.libraries.now.middle_new c.args.libraries.now.last c.args.certificates.now.one c.args.certificates.now.other
    c.in-Ok.cert c.in_ok-written-in-Ok.field-0.items c.make_a_chain.ensures c.requires.accepted c.in-Ok.ensures.nothing c.in-Ok.ensures.composed c.in-Ok.ensures.accepted
    c.in_ok-written-in-Ok.ensures.spelled c.in_ok-written-in-Ok.ensures.short
