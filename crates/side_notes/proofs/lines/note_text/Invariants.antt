-- The notes of the kinds so far.
use Rattle.std.proofs.Common.{◌≡◌, take}
use Rattle.std.specs.List.{flat_map}
use Rattle.side_notes.specs.NoteTexts.{kind_text}
use Rattle.side_notes.proofs.lines.note_text.Given as goal

abbrev pub invariant-loop-kind : goal.invariant-loop-kind
invariant-loop-kind l = l.text.items ≡ flat_map (kind_text l.notes) (take l.kind-index l.kinds)
