-- The versions of the exports of a new library that the old one does not have.
use Rattle.std.specs.Prelude.{ℕ, not, if◌then◌else◌, List, [], ◌∷◌, filter, filter_map, map, Option, Some, None}
use Rattle.std.specs.List.{list_any}
use Rattle.std.specs.Str.{bytes_eq}
use Rattle.abi_base.specs.Lists.{firsts, with_first}
use Rattle.abi_types.specs.Exports.{PlainExport}
use Rattle.abi_types.specs.Shown.{shown}
use Rattle.type_notes.specs.declared.note.Note.{Note}
use Rattle.type_notes.specs.declared.note.NoteKind.TheVariants.{VersionAdded}
use Rattle.side_notes.specs.Made.{note_on_export}

-- the versions of exports, each once, in the order in which the exports first have them
unfoldable pub versions_of : List PlainExport → List (List ℕ)
versions_of exports = firsts bytes_eq (filter_map (λ (e : PlainExport). e.version) exports)

-- the versions of the new exports that no old export has
abbrev pub added_versions : List PlainExport → List PlainExport → List (List ℕ)
added_versions old new = filter (λ version. not (list_any (bytes_eq version) (versions_of old))) (versions_of new)

-- a note on each version that only the new exports have
abbrev pub version_note : List ℕ → Note
version_note version = note_on_export VersionAdded [] [] (shown version)

unfoldable pub version_notes : List PlainExport → List PlainExport → List Note
version_notes old new = map version_note (added_versions old new)

-- the versions with one more, where it is new
abbrev pub kept_with : List (List ℕ) → Option (List ℕ) → List (List ℕ)
kept_with kept None = kept
kept_with kept (Some version) = with_first bytes_eq kept version

-- the note on a version that is not in the list
abbrev pub notes_if_new : List (List ℕ) → List ℕ → List Note
notes_if_new known version = if list_any (bytes_eq version) known then [] else version_note version ∷ []
