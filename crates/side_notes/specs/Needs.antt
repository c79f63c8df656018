-- The notes on what the new library needs of other files and the old one does not.
use Rattle.std.specs.Prelude.{ℕ, ◌==◌, if◌then◌else◌, List, [], ◌++◌, length, map, codes}
use Rattle.abi_types.specs.Shown.{shown}
use Rattle.new_needs.specs.Needed.{PlainNeeded, PlainNeeds}
use Rattle.new_needs.specs.NewNeeds.{new_needs}
use Rattle.type_notes.specs.declared.note.Note.{Note}
use Rattle.type_notes.specs.declared.note.NoteKind.{NoteKind}
use Rattle.type_notes.specs.declared.note.NoteKind.TheVariants.{NeedsLibrary, NeedsVersion, NeedsSymbol}
use Rattle.side_notes.specs.Made.{note_on_export}

-- the printed form of what is needed: its name, and behind a sign what it is of, if it is of something
abbrev pub needed_text : List ℕ → PlainNeeded → List ℕ
needed_text sign n = shown n.name ++ (if length n.of == 0 then [] else sign ++ shown n.of)

abbrev pub need_note : NoteKind → List ℕ → PlainNeeded → Note
need_note kind sign n = note_on_export kind [] [] (needed_text sign n)

-- a note on each file, as `libm.so.6`; on each version, as `GLIBC_2.38 of libc.so.6`; and on each symbol, as `strlcpy@GLIBC_2.38`
unfoldable pub notes_on : PlainNeeds → List Note
notes_on needs =
    map (need_note NeedsLibrary (codes " of ")) needs.files
    ++ map (need_note NeedsVersion (codes " of ")) needs.versions
    ++ map (need_note NeedsSymbol (codes "@")) needs.symbols

-- the notes on what only the new one of two files needs
unfoldable pub needs_notes : List ℕ → List ℕ → List Note
needs_notes old new = notes_on (new_needs old new)
