-- The notes on the exports of an old library, by what they bind to.
use Rattle.std.specs.Prelude.{ℕ, Bool, false, if◌then◌else◌, List, [], length, flat_map, Option, Some, None, slice_get, slice_index_or}
use Rattle.std.specs.List.{range_with_len}
use Rattle.abi_types.specs.Exports.{PlainExport}
use Rattle.type_notes.specs.declared.note.Note.{Note}
use Rattle.side_notes.specs.Bound.{bound_in}
use Rattle.side_notes.specs.Successors.{successor_notes}
use Rattle.side_notes.specs.Threads.{thread_notes}

-- the notes on an old export, by the new one that it binds to
abbrev pub notes_to : List PlainExport → List PlainExport → PlainExport → Option PlainExport → List Note
notes_to old new e None = successor_notes old new e
notes_to old new e (Some f) = thread_notes e f

abbrev pub notes_from : List PlainExport → List PlainExport → Option PlainExport → List Note
notes_from old new None = []
notes_from old new (Some e) = notes_to old new e (bound_in new e)

-- the notes on the old export at a position; none if a rule drops it
unfoldable pub notes_at : List Bool → List PlainExport → List PlainExport → ℕ → List Note
notes_at dropped old new k = if slice_index_or dropped k false then [] else notes_from old new (slice_get old k)

-- the notes on the first exports
unfoldable pub notes_upto : List Bool → List PlainExport → List PlainExport → ℕ → List Note
notes_upto dropped old new count = flat_map (notes_at dropped old new) (range_with_len 0 count)

-- the notes on all old exports that are compared, in their order
abbrev pub old_export_notes : List Bool → List PlainExport → List PlainExport → List Note
old_export_notes dropped old new = notes_upto dropped old new (length old)
