use Rattle.library_check.specs.Checks.{sides_of}
use Rattle.library_check.proofs.CompositionLemmas.{no_loss, one_answer, one_composed, one_loss}
use Rattle.library_check.proofs.Verdicts.{apart}
use Rattle.library_check.proofs.laws.a_composition_has_one_answer.Goals as goal

pub returns-clause-answer : goal.returns-clause-answer
returns-clause-answer c = λ p v w text other one two.
    one_answer c.a_text_is_of_one_certificate.ensures p c.one_place_fails_first.ensures c.what_is_composed_is_one.ensures
    c.one_thing_is_lost_first.ensures.one c.one_thing_is_lost_first.ensures.none v w text other one two

pub returns-clause-text : goal.returns-clause-text
returns-clause-text c = λ p text other one two. one_composed c.a_text_is_of_one_certificate.ensures p c.what_is_composed_is_one.ensures text other one two

pub returns-clause-apart : goal.returns-clause-apart
returns-clause-apart c = λ old new rules certificate refusal one other. apart c.a_text_is_of_one_certificate.ensures (sides_of old new rules) certificate refusal one other

pub returns-clause-loss : goal.returns-clause-loss
returns-clause-loss c = λ p refusal another one two. one_loss c.a_text_is_of_one_certificate.ensures p c.one_thing_is_lost_first.ensures.one refusal another one two

pub returns-clause-lossless : goal.returns-clause-lossless
returns-clause-lossless c = λ p text refusal one two. no_loss c.a_text_is_of_one_certificate.ensures p c.one_thing_is_lost_first.ensures.none text refusal one two
