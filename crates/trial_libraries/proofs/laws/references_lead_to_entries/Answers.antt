use Rattle.trial_libraries.proofs.Standing.{int_stands, pointer_stands, structure_stands}
use Rattle.trial_libraries.proofs.laws.references_lead_to_entries.Goals as goal

pub returns-clause-int : goal.returns-clause-int
returns-clause-int c = int_stands

pub returns-clause-pointers : goal.returns-clause-pointers
returns-clause-pointers c = pointer_stands

pub returns-clause-structures : goal.returns-clause-structures
returns-clause-structures c = structure_stands
