use Rattle.library_read.specs.Exports.{untyped_exports_of}
use Rattle.library_read.proofs.NoDebugLemmas.{file-faultless, file-untyped, file-void}
use Rattle.library_read.proofs.laws.files_without_debug_information_have_no_types.Goals as goal

pub returns-clause-fault : goal.returns-clause-fault
returns-clause-fault c = λ f none. file-faultless f (untyped_exports_of f) none

pub returns-clause-exports : goal.returns-clause-exports
returns-clause-exports c = file-untyped

pub returns-clause-graph : goal.returns-clause-graph
returns-clause-graph c = file-void c.laws_of_types.ensures
