-- The counter is the call's own.
use Rattle.library_check.proofs.applying.judge_used.Given as goal

abbrev pub ghosts-compared : goal.ghosts-compared
ghosts-compared g a = record { name = a.blank.name; parts = a.blank.parts }
