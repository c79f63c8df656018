use Rattle.pair_compare.proofs.Judging.{one_answer}
use Rattle.pair_compare.proofs.laws.two_libraries_have_one_right_answer.Goals as goal

pub returns : goal.returns
returns c = one_answer c.a_certificate_is_one.ensures c.a_right_report_is_one.ensures
