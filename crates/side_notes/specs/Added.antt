-- The exports of a new library that the old one does not have.
use Rattle.std.specs.Prelude.{Bool, not, if◌then◌else◌, List, [], ◌∷◌, filter, map}
use Rattle.std.specs.List.{list_any}
use Rattle.abi_types.specs.Exports.{PlainExport}
use Rattle.abi_types.specs.Shown.{label}
use Rattle.elf_bind.specs.Binding.{has_version}
use Rattle.type_notes.specs.declared.note.Note.{Note}
use Rattle.type_notes.specs.declared.note.NoteKind.TheVariants.{ExportAdded}
use Rattle.side_notes.specs.Made.{note_on_export}

-- some export has the name of this one, and its version, or none as it
unfoldable pub has_export : List PlainExport → PlainExport → Bool
has_export exports e = list_any (has_version e.name e.version) exports

abbrev pub added_note : PlainExport → Note
added_note e = note_on_export ExportAdded (label e) [] []

-- the exports of the new library whose name and version no export of the old one has
abbrev pub added_exports : List PlainExport → List PlainExport → List PlainExport
added_exports old new = filter (λ e. not (has_export old e)) new

-- a note on each export that only the new library has
unfoldable pub added_notes : List PlainExport → List PlainExport → List Note
added_notes old new = map added_note (added_exports old new)

-- the note on a new export that the old library does not have
abbrev pub notes_if_added : List PlainExport → PlainExport → List Note
notes_if_added old e = if has_export old e then [] else added_note e ∷ []
