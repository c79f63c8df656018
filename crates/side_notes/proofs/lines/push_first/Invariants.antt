-- The lines of the first notes of a kind so far, and how many they are.
use Rattle.std.proofs.Common.{◌≡◌, ◌++◌, length, take}
use Rattle.side_notes.specs.NoteTexts.{first_lines, first_of}
use Rattle.side_notes.proofs.lines.push_first.Given as goal

abbrev pub invariant-loop-note : goal.invariant-loop-note
invariant-loop-note l = record {
  text : l.text.items ≡ l.fn.text.items ++ first_lines l.kind (take l.note-index l.notes);
  count : l.so_far ≡ length (first_of l.kind (take l.note-index l.notes));
}
