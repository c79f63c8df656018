-- The numbers so far, and their types.
use Rattle.side_notes.proofs.AffectedLemmas.{IsTelling}
use Rattle.side_notes.proofs.affected.first_visits.Given as goal

abbrev pub invariant-loop-found : goal.invariant-loop-found
invariant-loop-found l = IsTelling l.explored.visits l.breaks l.found-index l.pairs l.numbers
