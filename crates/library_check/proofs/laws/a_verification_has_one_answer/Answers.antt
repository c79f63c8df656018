use Rattle.library_check.proofs.Verdicts.{one_answer}
use Rattle.library_check.proofs.laws.a_verification_has_one_answer.Goals as goal

pub returns : goal.returns
returns c = one_answer c.a_text_is_of_one_certificate.ensures c.one_place_fails_first.ensures
