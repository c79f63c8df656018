-- The notes at the rows so far.
use Rattle.std.proofs.Common.{take}
use Rattle.pair_explorer.specs.GraphPairs.{scope_of}
use Rattle.side_notes.specs.Affected.{AreRowNotes}
use Rattle.side_notes.proofs.affected.rows_of.Given as goal

abbrev pub invariant-rows : goal.invariant-rows
invariant-rows l = AreRowNotes l.ground.library.now (scope_of l.ground.walk.now.ground.now) l.ground.walk.now.visits.now (take l.k l.numbers) l.notes
