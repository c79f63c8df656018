use Rattle.library_check.specs.Compositions.{plain_files}
use Rattle.library_check.proofs.CompositionLemmas.{of_texts}
use Rattle.library_check.proofs.StopLemmas.{chain_stops_compose}
use Rattle.library_check.proofs.composing.compose.Goals as goal

pub returns-in-Ok-join-clause-said : goal.returns-in-Ok-join-clause-said
returns-in-Ok-join-clause-said c =
    of_texts (plain_files c.args.files.now) c.in_ok-libraries.libraries.first c.in_ok-libraries.libraries.middle_new c.in_ok-libraries.libraries.last c.in_ok-one.one c.in-Ok.other
    c.in-Ok-join.judgement.verdict c.in-Ok-join.judgement.untyped c.in-Ok-join.judgement.text.items
    c.in_ok-libraries.ensures.first c.in_ok-libraries.ensures.middle_new c.in_ok-libraries.ensures.last c.in_ok-one.ensures.spelled c.in-Ok.ensures.spelled
    c.in-Ok-join.ensures.joined c.in-Ok-join.ensures.unremarked

pub returns-clause-stops : goal.returns-clause-stops
returns-clause-stops c =
    chain_stops_compose (plain_files c.args.files.now) c.in_ok-libraries.libraries.first c.in_ok-libraries.libraries.middle_new c.in_ok-libraries.libraries.last c.in_ok-one.one c.in-Ok.other c.in-Err-join.cause
    c.in_ok-libraries.ensures.first c.in_ok-libraries.ensures.middle_new c.in_ok-libraries.ensures.last c.in_ok-one.ensures.spelled c.in-Ok.ensures.spelled c.in-Err-join.ensures.past
