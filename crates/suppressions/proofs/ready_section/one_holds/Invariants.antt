use Rattle.std.proofs.Common.{◌≡◌, drop}
use Rattle.suppressions.specs.PlainSubjects.{plain_subject}
use Rattle.suppressions.specs.Holding.{one_section_holds}
use Rattle.suppressions.proofs.ready_section.one_holds.Given as goal

-- the sections have not changed, and the remaining numbers decide
abbrev pub invariant-loop-number : goal.invariant-loop-number
invariant-loop-number l = (l.sections ≡ l.fn.sections) × (one_section_holds l.sections (plain_subject l.subject) (drop l.number-index l.numbers) ≡ one_section_holds l.sections (plain_subject l.subject) l.numbers)
