-- The notes on the exports so far.
use Rattle.std.proofs.Common.{◌≡◌, ◌++◌, take}
use Rattle.std.specs.List.{flat_map}
use Rattle.side_notes.specs.Affected.{note_beside}
use Rattle.side_notes.proofs.affected.push_others.Given as goal

abbrev pub invariant-loop-export : goal.invariant-loop-export
invariant-loop-export l = l.notes ≡ l.fn.notes ++ flat_map (note_beside l.row.library.now l.row.export l.row.text.now) (take l.export-index l.exports)
