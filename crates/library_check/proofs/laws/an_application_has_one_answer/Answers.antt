use Rattle.library_read.specs.Libraries.{library_of}
use Rattle.library_check.specs.Applications.{sides_for}
use Rattle.library_check.proofs.AppAnswers.{one_said}
use Rattle.library_check.proofs.Texts.{one_refusal}
use Rattle.library_check.proofs.laws.an_application_has_one_answer.Goals as goal

pub returns-clause-report : goal.returns-clause-report
unfolding library_of
returns-clause-report c = λ voices app old new rules text other tell old_short new_short old_readable new_readable first second.
    one_refusal c.two_libraries_have_one_right_answer.ensures (sides_for app old new rules)
    (c.nodes_stand_for_what_exports_reach.ensures.graph old old_short old_readable)
    (c.nodes_stand_for_what_exports_reach.ensures.graph new new_short new_readable) voices tell text other first second

pub returns-clause-answer : goal.returns-clause-answer
unfolding library_of
returns-clause-answer c = λ voices app old new rules v w text other tell old_short new_short old_readable new_readable first second.
    one_said c.two_libraries_have_one_right_answer.ensures voices tell (sides_for app old new rules)
    (c.nodes_stand_for_what_exports_reach.ensures.graph old old_short old_readable)
    (c.nodes_stand_for_what_exports_reach.ensures.graph new new_short new_readable) v w text other first second
