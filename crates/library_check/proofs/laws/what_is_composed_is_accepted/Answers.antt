use Rattle.library_check.proofs.CompositionLemmas.{composed_accepted}
use Rattle.library_check.proofs.laws.what_is_composed_is_accepted.Goals as goal

pub returns-clause-readable : goal.returns-clause-readable
returns-clause-readable c = λ p text is. c.what_is_spelled_has_no_fault.ensures text is.whole.cert is.whole.spelled

pub returns-clause-accepted : goal.returns-clause-accepted
returns-clause-accepted c = composed_accepted

pub returns-clause-short : goal.returns-clause-short
returns-clause-short c = λ p text is. is.whole.short
