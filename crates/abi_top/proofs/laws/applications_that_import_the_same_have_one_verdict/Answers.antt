use Rattle.abi_top.proofs.Alike.{verdicts_alike}
use Rattle.abi_top.proofs.laws.applications_that_import_the_same_have_one_verdict.Goals as goal

pub returns : goal.returns
returns c = verdicts_alike c.applications_that_import_the_same_are_judged_alike.ensures.sides
