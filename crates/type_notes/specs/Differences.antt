-- What differs between two types.
use Rattle.std.specs.Prelude.{ℕ, if◌then◌else◌, List, Option, Some, None}
use Rattle.std.specs.Str.{bytes_eq}
use Rattle.type_notes.specs.declared.note.NoteKind.{NoteKind}
use Rattle.type_notes.specs.declared.difference.Difference.{Difference}

-- the old and the new text, if they differ
abbrev pub differing : NoteKind → List ℕ → List ℕ → Option Difference
differing kind was is = if bytes_eq was is then None else Some (record { kind = kind; was = was; is = is })
