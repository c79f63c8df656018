-- The notes of the visits so far, and the definitions that they compare.
use Rattle.std.proofs.Common.{◌≡◌}
use Rattle.type_notes.specs.NotedPairs.{AreCompared, notes_below, noted_pair}
use Rattle.type_notes.proofs.walk.notes_along.Given as goal

abbrev pub invariant-visits : goal.invariant-visits
invariant-visits l = record {
  notes : l.notes ≡ notes_below (noted_pair l.walk.ground.now) l.walk.visits.now l.number;
  compared : AreCompared (noted_pair l.walk.ground.now) l.walk.visits.now l.number l.compared;
}
