-- The notes so far that are kept, and their names.
use Rattle.std.proofs.Common.{◌≡◌}
use Rattle.side_notes.specs.SaidOnce.{AreSaid, said_once}
use Rattle.side_notes.proofs.said_once.said_once.Given as goal

abbrev pub invariant-loop-note : goal.invariant-loop-note
invariant-loop-note l = record {
  kept : l.kept ≡ said_once l.yielded;
  said : AreSaid l.yielded l.said;
}
