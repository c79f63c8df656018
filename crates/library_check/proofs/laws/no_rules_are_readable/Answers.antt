use Rattle.library_check.proofs.Empty.{no_fault, nothing_marked}
use Rattle.library_check.proofs.laws.no_rules_are_readable.Goals as goal

pub returns-clause-readable : goal.returns-clause-readable
returns-clause-readable c = no_fault

pub returns-clause-unmarked : goal.returns-clause-unmarked
returns-clause-unmarked c = nothing_marked
