-- Marks that are even are marks of the library.
use Rattle.side_notes.proofs.Marked.{AreMarksOf-result}
use Rattle.side_notes.proofs.types.marks_by.Goals as goal

pub returns-clause-even : goal.returns-clause-even
returns-clause-even c = AreMarksOf-result c.args.old.now c.marks.result c.marks.ensures.even
