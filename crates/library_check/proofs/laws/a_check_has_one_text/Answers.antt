use Rattle.library_check.proofs.Texts.{one_certificate, one_report}
use Rattle.library_check.proofs.laws.a_check_has_one_text.Goals as goal

pub returns-clause-certificate : goal.returns-clause-certificate
returns-clause-certificate c = λ old new rules text other old_short new_short readable one two.
    one_certificate old new rules c.two_libraries_have_one_right_answer.ensures
    (c.nodes_stand_for_what_exports_reach.ensures.graph old old_short readable.0)
    (c.nodes_stand_for_what_exports_reach.ensures.graph new new_short readable.1.0) text other one two

pub returns-clause-report : goal.returns-clause-report
returns-clause-report c = λ voices old new rules text other tell old_short new_short readable one two.
    one_report old new rules c.two_libraries_have_one_right_answer.ensures
    (c.nodes_stand_for_what_exports_reach.ensures.graph old old_short readable.0)
    (c.nodes_stand_for_what_exports_reach.ensures.graph new new_short readable.1.0) voices tell text other one two
