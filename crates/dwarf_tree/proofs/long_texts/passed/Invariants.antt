use Rattle.std.proofs.Common.{◌≤◌, length}
use Rattle.dwarf_tree.proofs.long_texts.passed.Given as goal

abbrev pub invariant-back : goal.invariant-back
invariant-back l = (l.at ≤ l.from) × (l.from ≤ length l.info)

abbrev pub decreases-back : goal.decreases-back
decreases-back l = l.from
