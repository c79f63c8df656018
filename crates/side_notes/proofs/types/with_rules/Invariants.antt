-- The counter is the call's own.
use Rattle.side_notes.proofs.types.with_rules.Given as goal

abbrev pub ghosts-beside_types : goal.ghosts-beside_types
ghosts-beside_types a = record { name = a.blank.name; parts = a.blank.parts }
