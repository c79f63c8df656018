use Rattle.std.proofs.Common.{◌≡◌, ◌≤◌, length, take}
use Rattle.suppression_text.specs.Lines.{without_end}
use Rattle.suppression_text.proofs.line.without_end.Given as goal

-- what stands before the place has blanks at its end as the text has
abbrev pub invariant-blanks : goal.invariant-blanks
invariant-blanks l = (l.end ≤ length l.text) × (without_end (take l.end l.text) ≡ without_end l.text)

abbrev pub decreases-blanks : goal.decreases-blanks
decreases-blanks l = l.end
