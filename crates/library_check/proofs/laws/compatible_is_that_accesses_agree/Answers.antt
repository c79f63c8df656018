-- Readable files are libraries of graphs.
use Rattle.library_read.specs.Libraries.{library_of}
use Rattle.library_check.specs.Applications.{sides_for}
use Rattle.library_check.specs.Checks.{sides_of}
use Rattle.library_check.proofs.laws.compatible_is_that_accesses_agree.Goals as goal

pub returns-clause-exact : goal.returns-clause-exact
unfolding library_of
returns-clause-exact c = λ old new rules old_short new_short old_readable new_readable.
    c.compatible_is_that_accesses_agree.ensures.exact (sides_of old new rules)
    (record {
      old = record { library = c.readable_files_are_libraries.ensures old old_short old_readable; graph = c.nodes_stand_for_what_exports_reach.ensures.graph old old_short old_readable };
      new = record { library = c.readable_files_are_libraries.ensures new new_short new_readable; graph = c.nodes_stand_for_what_exports_reach.ensures.graph new new_short new_readable };
    })

pub returns-clause-app : goal.returns-clause-app
unfolding library_of
returns-clause-app c = λ app old new rules old_short new_short old_readable new_readable.
    c.compatible_is_that_accesses_agree.ensures.exact (sides_for app old new rules)
    (record {
      old = record { library = c.readable_files_are_libraries.ensures old old_short old_readable; graph = c.nodes_stand_for_what_exports_reach.ensures.graph old old_short old_readable };
      new = record { library = c.readable_files_are_libraries.ensures new new_short new_readable; graph = c.nodes_stand_for_what_exports_reach.ensures.graph new new_short new_readable };
    })

pub returns-clause-leaves : goal.returns-clause-leaves
unfolding library_of
returns-clause-leaves c = λ old new rules old_short new_short old_readable new_readable.
    c.compatible_is_that_accesses_agree.ensures.leaves (sides_of old new rules)
    (record {
      old = record { library = c.readable_files_are_libraries.ensures old old_short old_readable; graph = c.nodes_stand_for_what_exports_reach.ensures.graph old old_short old_readable };
      new = record { library = c.readable_files_are_libraries.ensures new new_short new_readable; graph = c.nodes_stand_for_what_exports_reach.ensures.graph new new_short new_readable };
    })

pub returns-clause-app_leaves : goal.returns-clause-app_leaves
unfolding library_of
returns-clause-app_leaves c = λ app old new rules old_short new_short old_readable new_readable.
    c.compatible_is_that_accesses_agree.ensures.leaves (sides_for app old new rules)
    (record {
      old = record { library = c.readable_files_are_libraries.ensures old old_short old_readable; graph = c.nodes_stand_for_what_exports_reach.ensures.graph old old_short old_readable };
      new = record { library = c.readable_files_are_libraries.ensures new new_short new_readable; graph = c.nodes_stand_for_what_exports_reach.ensures.graph new new_short new_readable };
    })
