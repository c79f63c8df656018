use Rattle.library_check.proofs.RelationLemmas.{said_by}
use Rattle.library_check.proofs.checking.check.Goals as goal

pub returns-clause-said : goal.returns-clause-said
returns-clause-said g c =
    said_by c.an_accepted_certificate_tells_such_a_relation.ensures c.args.old.now c.args.new.now c.args.rules.now c.requires.old_short c.requires.new_short c.in_ok-inputs.ensures.readable
    _ c.in_ok-inputs.inputs.pair.old c.in_ok-inputs.inputs.pair.new c.in_ok-inputs.inputs.rules c.in_ok-judgement.judgement.verdict c.in_ok-judgement.judgement.untyped c.in_ok-judgement.judgement.text.items
    c.in_ok-inputs.ensures.old c.in_ok-inputs.ensures.new c.in_ok-inputs.ensures.rules c.in_ok-judgement.ensures.judged c.in_ok-judgement.ensures.remark
