-- The notes on the exports of two libraries, and on the sections of a rule file.
use Rattle.std.specs.Prelude.{List, ◌++◌}
use Rattle.abi_types.specs.declared.library.Marks.{Marks}
use Rattle.abi_types.specs.Libraries.{PlainLibrary}
use Rattle.suppression_text.specs.Rules.{PlainRules}
use Rattle.suppressions.specs.Marks.{marks_of}
use Rattle.type_notes.specs.declared.note.Note.{Note}
use Rattle.side_notes.specs.Added.{added_notes}
use Rattle.side_notes.specs.Idle.{idle_notes}
use Rattle.side_notes.specs.OldExports.{old_export_notes}
use Rattle.side_notes.specs.Versions.{version_notes}

-- the notes on new exports, on new versions, and on the old exports that are compared
unfoldable pub export_notes : PlainLibrary → PlainLibrary → Marks → List Note
export_notes old new marks = (added_notes old.exports new.exports ++ version_notes old.exports new.exports) ++ old_export_notes marks.exports old.exports new.exports

-- the notes on exports that no rule drops, and then the notes on the sections that match nothing
abbrev pub notes_by : PlainLibrary → PlainLibrary → PlainRules → List Note
notes_by old new rules = export_notes old new (marks_of rules old) ++ idle_notes rules old
