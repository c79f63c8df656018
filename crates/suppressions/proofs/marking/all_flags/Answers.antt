use Rattle.suppressions.proofs.MarkLemmas.{all_are}
use Rattle.suppressions.proofs.marking.all_flags.Goals as goal

pub returns-clause-is : goal.returns-clause-is
returns-clause-is c = all_are c.args.old.now c.args.sections.now c.in_ok-named.named c.in_ok-others.others c.either_flags.result c.in_ok-named.ensures.is c.in_ok-others.ensures.is c.either_flags.ensures
