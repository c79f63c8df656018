-- What the notes so far take.
use Rattle.std.proofs.Common.{◌≡◌, ◌+◌, take}
use Rattle.std.specs.Prelude.{sum_by}
use Rattle.side_notes.specs.Affected.{note_size}
use Rattle.side_notes.proofs.affected.NoteRoom.take_notes.Given as goal

abbrev pub invariant-loop-export : goal.invariant-loop-export
invariant-loop-export l =
    (l.fn.self.bytes ≡ l.self.bytes + sum_by (note_size l.row.library.now l.row.text.now) (take l.export-index l.exports)) × (l.self.steps ≡ l.fn.self.steps)
