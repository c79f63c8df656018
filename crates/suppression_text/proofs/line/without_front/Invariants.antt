use Rattle.std.proofs.Common.{◌≡◌, ◌≤◌, ◌-◌, length, drop}
use Rattle.suppression_text.specs.Lines.{without_front}
use Rattle.suppression_text.proofs.line.without_front.Given as goal

-- what is left has blanks at its front as the text has
abbrev pub invariant-blanks : goal.invariant-blanks
invariant-blanks l = (l.at ≤ length l.text) × (without_front (drop l.at l.text) ≡ without_front l.text)

abbrev pub decreases-blanks : goal.decreases-blanks
decreases-blanks l = length l.text - l.at
