-- Notes that speak of one export.
use Rattle.std.specs.Prelude.{ℕ, List, [], ◌++◌, codes, decimal}
use Rattle.type_notes.specs.declared.note.Note.{Note}
use Rattle.type_notes.specs.declared.note.NoteKind.{NoteKind}

-- a note on an export itself, with what was there and what is there now
abbrev pub note_on_export : NoteKind → List ℕ → List ℕ → List ℕ → Note
note_on_export kind export was is = record { kind = kind; export = export; path = []; was = was; is = is }

-- a size in words
abbrev pub sized : ℕ → List ℕ
sized size = codes "size " ++ decimal size
