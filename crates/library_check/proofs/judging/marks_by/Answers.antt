use Rattle.library_check.proofs.Marked.{AreMarksOf-result}
use Rattle.library_check.proofs.judging.marks_by.Goals as goal

pub returns-clause-even : goal.returns-clause-even
returns-clause-even c = AreMarksOf-result c.args.old.now c.marks.result c.marks.ensures.even
