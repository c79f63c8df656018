use Rattle.library_read.specs.Libraries.{library_of}
use Rattle.library_check.proofs.AppAnswers.{said_alike}
use Rattle.library_check.proofs.AppLemmas.{sides_alike}
use Rattle.library_check.proofs.laws.applications_that_import_the_same_are_judged_alike.Goals as goal

pub returns-clause-sides : goal.returns-clause-sides
returns-clause-sides c = sides_alike

pub returns-clause-answer : goal.returns-clause-answer
unfolding library_of
returns-clause-answer c = λ voices app other old new rules v w text answer tell old_short new_short old_readable new_readable same first second.
    said_alike c.two_libraries_have_one_right_answer.ensures voices tell app other old new rules same
    (c.nodes_stand_for_what_exports_reach.ensures.graph old old_short old_readable)
    (c.nodes_stand_for_what_exports_reach.ensures.graph new new_short new_readable) v w text answer first second
