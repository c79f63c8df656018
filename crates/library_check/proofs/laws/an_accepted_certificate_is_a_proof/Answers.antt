use Rattle.library_read.specs.Libraries.{library_of}
use Rattle.library_check.specs.Checks.{sides_of}
use Rattle.library_check.specs.Verifications.{case_for}
use Rattle.library_check.proofs.Marked.{even_sides}
use Rattle.library_check.proofs.laws.an_accepted_certificate_is_a_proof.Goals as goal

pub returns : goal.returns
unfolding library_of
returns c = λ old new rules certificate old_short new_short old_readable new_readable is.
    c.an_accepted_certificate_is_a_proof.ensures (case_for (sides_of old new rules) is.cert)
    (c.readable_files_are_libraries.ensures old old_short old_readable).numbered
    (c.nodes_stand_for_what_exports_reach.ensures.graph old old_short old_readable)
    (c.nodes_stand_for_what_exports_reach.ensures.graph new new_short new_readable)
    (even_sides c.a_rule_file_marks_equal_labels_alike.ensures old new rules) is.accepted
