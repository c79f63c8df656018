use Rattle.std.proofs.Common.{◌≤◌, length}
use Rattle.dwarf_text.proofs.EndLemmas.{NoText}
use Rattle.dwarf_text.proofs.ends.texts_end.Given as goal

abbrev pub invariant-back : goal.invariant-back
invariant-back l = NoText l.section l.end × (l.end ≤ length l.section)

abbrev pub decreases-back : goal.decreases-back
decreases-back l = l.end
