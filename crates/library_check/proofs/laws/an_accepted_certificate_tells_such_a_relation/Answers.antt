use Rattle.library_read.specs.Libraries.{library_of}
use Rattle.library_check.specs.Checks.{sides_of}
use Rattle.library_check.specs.Verifications.{case_for}
use Rattle.library_check.proofs.Marked.{even_sides}
use Rattle.library_check.proofs.laws.an_accepted_certificate_tells_such_a_relation.Goals as goal

pub returns : goal.returns
unfolding library_of
returns c = λ old new rules certificate old_short new_short old_readable new_readable is.
    let case = case_for (sides_of old new rules) is.cert in
    let old_graph = c.nodes_stand_for_what_exports_reach.ensures.graph old old_short old_readable in
    let new_graph = c.nodes_stand_for_what_exports_reach.ensures.graph new new_short new_readable in
    let even = even_sides c.a_rule_file_marks_equal_labels_alike.ensures old new rules in
    record {
      cert = is.cert;
      spelled = is.spelled;
      closed = c.the_relation_of_an_accepted_certificate_is_closed.ensures.closed case old_graph new_graph even is.accepted;
      roots = c.the_relation_of_an_accepted_certificate_is_closed.ensures.roots case old_graph new_graph even is.accepted;
    }
