-- Objects of threads that bind to ones of another size. No rule compares their sizes or their types (gABI, "Symbol Table", STT_TLS).
use Rattle.std.specs.Prelude.{◌==◌, ◌&&◌, not, Bool, true, false, if◌then◌else◌, List, [], ◌∷◌}
use Rattle.abi_types.specs.declared.export.SymbolKind.{SymbolKind}
use Rattle.abi_types.specs.declared.export.SymbolKind.TheVariants.{NoType, Object, Func, Common, Tls, Ifunc}
use Rattle.abi_types.specs.Exports.{PlainExport}
use Rattle.abi_types.specs.Shown.{label}
use Rattle.type_notes.specs.declared.note.Note.{Note}
use Rattle.type_notes.specs.declared.note.NoteKind.TheVariants.{ThreadObject}
use Rattle.side_notes.specs.Made.{note_on_export, sized}

abbrev pub is_thread_object : SymbolKind → Bool
is_thread_object Tls = true
is_thread_object NoType = false
is_thread_object Object = false
is_thread_object Func = false
is_thread_object Common = false
is_thread_object Ifunc = false

-- both are objects of threads, and their sizes differ
abbrev pub are_resized : PlainExport → PlainExport → Bool
are_resized e f = is_thread_object e.kind && is_thread_object f.kind && not (e.size == f.size)

-- the note on an export that binds to another, where both are such objects: their sizes
abbrev pub thread_notes : PlainExport → PlainExport → List Note
thread_notes e f = if are_resized e f then note_on_export ThreadObject (label e) (sized e.size) (sized f.size) ∷ [] else []
