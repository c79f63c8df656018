-- All notes on two libraries, by a rule file that was read.
use Rattle.std.proofs.Common.{◌≡◌, ◌∙◌, List, ◌++◌, ap, subst}
use Rattle.abi_types.specs.declared.library.Marks.{Marks}
use Rattle.abi_types.specs.Libraries.{PlainLibrary}
use Rattle.dwarf_entries.specs.Debug.{PlainDwarf}
use Rattle.suppression_text.specs.Rules.{PlainRules}
use Rattle.suppressions.specs.Marks.{marks_of}
use Rattle.type_notes.specs.declared.note.Note.{Note}
use Rattle.side_notes.specs.AllNotes.{AreByRules, AreTypeNotes, noted_by}
use Rattle.side_notes.specs.Between.{notes_by}
use Rattle.side_notes.specs.SaidOnce.{said_once}

-- the notes on types, and then those on exports and sections
pub by_rules : (old new : PlainLibrary) (old_dwarf new_dwarf : PlainDwarf) (rules : PlainRules) (marks : Marks) (on_types own all notes : List Note)
    → marks ≡ marks_of rules old → AreTypeNotes (noted_by old new marks old_dwarf new_dwarf) on_types → own ≡ notes_by old new rules → all ≡ on_types ++ own → notes ≡ said_once all
    → AreByRules old new old_dwarf new_dwarf rules notes
by_rules old new old_dwarf new_dwarf rules marks on_types own all notes marked are others joined once = record {
  before = on_types;
  are_types = subst (λ (m : Marks). AreTypeNotes (noted_by old new m old_dwarf new_dwarf) on_types) marked are;
  are = once ∙ ap said_once (joined ∙ ap (λ (ns : List Note). on_types ++ ns) others);
}
