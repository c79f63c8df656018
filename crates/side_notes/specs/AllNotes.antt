-- All notes on two libraries, from their bytes and those of a rule file.
use Rattle.std.specs.Prelude.{◌≡◌, ℕ, Bool, true, false, not, is_none, List, [], ◌++◌, Option, Some, None}
use Rattle.std.specs.Str.{bytes_eq}
use Rattle.abi_types.specs.declared.library.Marks.{Marks}
use Rattle.abi_types.specs.Libraries.{PlainLibrary}
use Rattle.cert_check.specs.Compatible.{Sides, sides}
use Rattle.dwarf_entries.specs.Debug.{PlainDwarf}
use Rattle.library_read.specs.Debug.{debug_of}
use Rattle.library_read.specs.Faults.{library_fault}
use Rattle.library_read.specs.Libraries.{library_of}
use Rattle.suppression_text.specs.Faults.{rule_fault}
use Rattle.suppression_text.specs.Rules.{PlainRules, rules_of}
use Rattle.suppressions.specs.Marks.{marks_of}
use Rattle.type_notes.specs.NotedPairs.{AreNotes, PlainPair}
use Rattle.type_notes.specs.declared.note.Note.{Note}
use Rattle.side_notes.specs.Affected.{AreAffected}
use Rattle.side_notes.specs.Between.{notes_by}
use Rattle.side_notes.specs.CountsOfFiles.{counts_by, counts_in}
use Rattle.side_notes.specs.Needs.{needs_notes}
use Rattle.side_notes.specs.declared.counts.Counts.{Counts}
use Rattle.side_notes.specs.declared.types.Beside.{Beside}
use Rattle.side_notes.specs.SaidOnce.{said_once}

-- two libraries with marks that are compared, and the entries of both
abbrev pub noted_in : PlainDwarf → PlainDwarf → Sides → PlainPair
noted_in old_dwarf new_dwarf s = record { sides = s; old_dwarf = old_dwarf; new_dwarf = new_dwarf }

abbrev pub noted_by : PlainLibrary → PlainLibrary → Marks → PlainDwarf → PlainDwarf → PlainPair
noted_by old new marks old_dwarf new_dwarf = noted_in old_dwarf new_dwarf (sides old new marks)

-- the notes on types, and those on the exports that lead to types which break a rule
pub record AreTypeNotes (p : PlainPair) (notes : List Note) : Type 0 where
  pub on_types : List Note
  pub on_exports : List Note
  pub types : AreNotes p on_types
  pub affected : AreAffected p.sides on_exports
  pub are : notes ≡ on_types ++ on_exports

-- what is said of two libraries that are compared, by the entries of both: such notes, and the counts of exports
pub record IsOnTypes (old_dwarf new_dwarf : PlainDwarf) (s : Sides) (beside : Beside) : Type 0 where
  pub notes : AreTypeNotes (noted_in old_dwarf new_dwarf s) beside.notes
  pub counts : beside.counts ≡ Some (counts_by s.old s.new s.marks)

-- the notes are as described, or there are none
abbrev pub AreWhere : Bool → (List Note → Type 0) → List Note → Type 0
AreWhere true Are notes = Are notes
AreWhere false Are notes = notes ≡ []

-- All notes on two libraries with their debug information, by a rule file that was read: those on types, and then those on exports
-- alone and on the sections of the rule file that hold of nothing. Of notes that say the same the first one stays.
pub record AreByRules (old new : PlainLibrary) (old_dwarf new_dwarf : PlainDwarf) (rules : PlainRules) (notes : List Note) : Type 0 where
  pub before : List Note
  pub are_types : AreTypeNotes (noted_by old new (marks_of rules old) old_dwarf new_dwarf) before
  pub are : notes ≡ said_once (before ++ notes_by old new rules)

-- All notes by the bytes of a rule file. There are none where it has a fault.
abbrev pub AreWithBoth : PlainLibrary → PlainLibrary → PlainDwarf → PlainDwarf → List ℕ → List Note → Type 0
AreWithBoth old new old_dwarf new_dwarf rules = AreWhere (is_none (rule_fault rules)) (AreByRules old new old_dwarf new_dwarf (rules_of rules))

-- All notes on an old library with its debug information and the bytes of a new one. There are none where the new one has a fault.
abbrev pub AreWithOld : PlainLibrary → PlainDwarf → List ℕ → List ℕ → List Note → Type 0
AreWithOld old old_dwarf new rules = AreWhere (is_none (library_fault new)) (AreWithBoth old (library_of new) old_dwarf (debug_of new) rules)

-- All notes on two files, by a rule file. There are none where one of the three has a fault.
abbrev pub AreOfFiles : List ℕ → List ℕ → List ℕ → List Note → Type 0
AreOfFiles old new rules = AreWhere (is_none (library_fault old)) (AreWithOld (library_of old) (debug_of old) new rules)

-- the notes on needs where exports are counted, which is where no file has a fault
abbrev pub needs_where : Option Counts → List Note → List Note
needs_where None notes = []
needs_where (Some counts) notes = notes

-- all notes on two files, by a rule file, and then the notes on what only the new file needs of other files
pub record AreWithNeeds (old new rules : List ℕ) (notes : List Note) : Type 0 where
  pub before : List Note
  pub are_before : AreOfFiles old new rules before
  pub are : notes ≡ before ++ needs_where (counts_in old new rules) (needs_notes old new)

-- All notes on two files. There are none where both are the same bytes.
abbrev pub AreAllNotes : List ℕ → List ℕ → List ℕ → List Note → Type 0
AreAllNotes old new rules = AreWhere (not (bytes_eq old new)) (AreWithNeeds old new rules)
