use Rattle.suppressions.specs.PlainSubjects.{plain_subject}
use Rattle.suppressions.proofs.HoldLemmas.{one_let_in}
use Rattle.suppressions.proofs.ready_section.ReadyRules.pattern_holds.Goals as goal

pub returns-then-not-lets_in-clause-some : goal.returns-then-not-lets_in-clause-some
returns-then-not-lets_in-clause-some c =
    one_let_in (plain_subject c.args.subject.now) c.args.self.now c.lets_in.result c.lets_in.ensures.found c.if-not-lets_in.true
