-- By the last steps of the paths.
use Rattle.pair_explorer.proofs.Order.{IsBefore-trans, IsNotAfter-trans, IsBefore-irreflexive}
use Rattle.pair_explorer.proofs.laws.paths_are_ordered.Goals as goal

pub returns-clause-transitive : goal.returns-clause-transitive
returns-clause-transitive c p q r one two = IsBefore-trans p q r one two

pub returns-clause-not_after : goal.returns-clause-not_after
returns-clause-not_after c p q r one two = IsNotAfter-trans p q r one two

pub returns-clause-irreflexive : goal.returns-clause-irreflexive
returns-clause-irreflexive c p before = IsBefore-irreflexive p before
