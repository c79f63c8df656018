-- What only the new file needs.
use Rattle.std.proofs.Common.{◌++◌, ◌∙◌, ap}
use Rattle.new_needs.specs.Needed.{PlainNeeds}
use Rattle.side_notes.specs.Needs.{needs_notes, notes_on}
use Rattle.side_notes.proofs.needs.push_needs.Goals as goal

pub returns : goal.returns
unfolding needs_notes
returns c = c.in_ok-push_notes.ensures ∙ ap (λ (n : PlainNeeds). c.args.notes.now ++ notes_on n) c.in_ok-needs.ensures.ok
