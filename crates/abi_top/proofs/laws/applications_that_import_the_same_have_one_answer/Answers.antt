use Rattle.abi_top.proofs.Alike.{answers_alike}
use Rattle.abi_top.proofs.laws.applications_that_import_the_same_have_one_answer.Goals as goal

pub returns : goal.returns
returns c = answers_alike c.applications_that_import_the_same_are_judged_alike.ensures.answer
