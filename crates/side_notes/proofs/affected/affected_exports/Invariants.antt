-- The counter is the call's own.
use Rattle.side_notes.proofs.affected.affected_exports.Given as goal

abbrev pub ghosts-counted_notes : goal.ghosts-counted_notes
ghosts-counted_notes a = record { name = a.blank.name; parts = a.blank.parts }
