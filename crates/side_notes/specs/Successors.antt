-- Likely successors of exports that are gone.
use Rattle.std.specs.Prelude.{◌≡◌, ◌&&◌, ℕ, Bool, not, if◌then◌else◌, List, [], ◌∷◌, position, Option, None, Some, option_and_then, slice_get}
use Rattle.std.specs.Option.{option_or}
use Rattle.std.specs.Str.{bytes_eq}
use Rattle.abi_types.specs.Exports.{PlainExport}
use Rattle.abi_types.specs.Shown.{label}
use Rattle.elf_bind.specs.Binding.{is_named}
use Rattle.type_notes.specs.declared.note.Note.{Note}
use Rattle.type_notes.specs.declared.note.NoteKind.TheVariants.{Successor}
use Rattle.side_notes.specs.Added.{has_export}
use Rattle.side_notes.specs.Made.{note_on_export}
use Rattle.side_notes.specs.Places.{Places, place_under}
use Rattle.side_notes.specs.Stems.{stem}

-- an export of the new library that the old one does not have, whose name has this stem
abbrev pub is_kin : List PlainExport → List ℕ → PlainExport → Bool
is_kin old s f = not (has_export old f) && bytes_eq (stem f.name) s

-- The place of the likely successor of an old export that binds to none: the first export of its name, which has another version,
-- or else the first one with its stem that only the new library has.
unfoldable pub successor_place : List PlainExport → List PlainExport → PlainExport → Option ℕ
successor_place old new e = option_or (position (is_named e.name) new) (position (is_kin old (stem e.name)) new)

abbrev pub successor_in : List PlainExport → List PlainExport → PlainExport → Option PlainExport
successor_in old new e = option_and_then (slice_get new) (successor_place old new e)

abbrev pub successor_note : PlainExport → PlainExport → Note
successor_note e f = note_on_export Successor (label e) (label e) (label f)

-- the note on an old export that binds to none, where it has a likely successor
abbrev pub notes_with : PlainExport → Option PlainExport → List Note
notes_with e None = []
notes_with e (Some f) = successor_note e f ∷ []

unfoldable pub successor_notes : List PlainExport → List PlainExport → PlainExport → List Note
successor_notes old new e = notes_with e (successor_in old new e)

-- ---- by a map

-- each stem has the place of the first of the exports that only the new library has and whose names have this stem
abbrev pub AreKin : List PlainExport → List PlainExport → Places → Type 0
AreKin old new places = (s : List ℕ) → place_under places s ≡ position (is_kin old s) new

-- a place is kept for each stem for which a test passes and that has none
abbrev pub KeepsFirst : Places → (List ℕ → Bool) → ℕ → Places → Type 0
KeepsFirst before passes place after = (s : List ℕ) → place_under after s ≡ option_or (place_under before s) (if passes s then Some place else None)
